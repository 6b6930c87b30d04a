-- The definitions in a row: what is made of each token where a definition starts is what is made of each definition of the tree.
-- Assumes nothing.
use mathlib.Core.Path.{◌≡◌, sym, ap, ◌∙◌, subst}
use mathlib.Core.Bool.{true}
use mathlib.Core.List.{List, ◌∷◌, ◌++◌, map, append_assoc}
use mathlib.Core.Logic.{inl, inr}
use Prim.Native.Nat.{ℕ, suc, ◌+◌, ◌-◌, ◌≤◌, ◌<◌}
use native.Mathlib.Nat.{add-zero}
use native.Mathlib.Omega.{arith}
use lib.Dec.{T, eqb, eqb→eq}
use lib.ListN.{length-append}
use Rattle.grammar.specs.Rule.{Tree, yield, last, step}
use Rattle.index.specs.First.{hits}
use Rattle.index.proofs.Tested.{and_left, and_right}
use Rattle.index.proofs.Hits.{hits_hit}
use Rattle.definition.specs.Landmark as landmark
use Rattle.definition.specs.Landmark.{begins, definition_end, kind_at}
use Rattle.module_tree.specs.Marked.{Marked, nothing, nil, word, ◌then◌, ◌either◌, steps, mark, many, unmarked, size, parts}
use Rattle.module_tree.specs.Grammar.{definition, start}
use Rattle.module_tree.proofs.Leading.{Stands}
use Rattle.module_tree.proofs.Starts.{start_at}
use Rattle.module_tree.proofs.Line.{line_passes, lines_pass, Named, named_is, its_kind}
use Rattle.module_tree.proofs.Place.{At, at_step, at_more, marks_long, none_starts, some_closes, kind_starts, ends_there, hits_skip}

module _ (cs : List ℕ) where
  -- what is known of a definition of the tree
  pub record Node (k : ℕ) (m : Marked) (d : ℕ) (t : Tree (unmarked m)) : Type 0 where
    pub passes : T (line_passes k m)
    pub classes : Stands cs d (yield (unmarked m) t)
    pub kind : kind_at cs d ≡ k
    pub begun : begins cs d ≡ true
    pub ended : definition_end cs d ≡ d + size m t

  module _ (k : ℕ) (m : Marked) (p : T (line_passes k m)) (d : ℕ) (t : Tree (unmarked m)) (at : At cs m d t) where
    abbrev names : Named k m p t cs d at.classes
    names = named_is k m p t cs d at.classes

    -- its first token is its start, and nothing starts at a later one
    first_starts : start_at cs d ≡ k
    first_starts =
        ap (start_at cs) (sym (add-zero d)) ∙ at.starts 0 (omega (arith, names.some, marks_long start m t)) ∙ names.at_first

    none_later : (i : ℕ) → d < i → i < d + size m t → start_at cs i ≡ 0
    none_later i l h =
        let j : i ≡ d + (i - d) = omega arith in
        ap (start_at cs) j ∙ at.starts (i - d) (omega (arith, marks_long start m t)) ∙ names.later (i - d) (omega arith)

    pub some_start : 0 < start_at cs d
    some_start = omega (arith, first_starts, (its_kind k m p t cs d at.classes).0)

    module _ (inside : d + size m t ≤ landmark.last_token cs) (closed : 0 < start_at cs (d + size m t)) where
      pub node : Node k m d t
      node =
          let limits = its_kind k m p t cs d at.classes in
          let starts = kind_starts cs d k first_starts limits.0 limits.1 in
          record {
            passes = p;
            classes = at.classes;
            kind = starts.1;
            begun = starts.0;
            ended =
                ends_there cs d (d + size m t) (omega (arith, names.some)) inside (λ i l h. (none_starts cs i (none_later i l h)).1)
                (some_closes cs (d + size m t) closed);
          }

      -- the search goes on behind it
      pub next_hits : hits (begins cs) d (landmark.last_token cs) ≡ d ∷ hits (begins cs) (d + size m t) (landmark.last_token cs)
      next_hits =
          let some = names.some in
          let on : suc d + (size m t - 1) ≡ d + size m t = omega arith in
          hits_hit (begins cs) d (landmark.last_token cs) (omega arith) node.begun
          ∙ ap (λ l. d ∷ l)
          (hits_skip (begins cs) (size m t - 1) (suc d) (landmark.last_token cs) (omega arith)
          (λ i l h. (none_starts cs i (none_later i (omega arith) (omega arith))).0)
          ∙ ap (λ i. hits (begins cs) i (landmark.last_token cs)) on)

  -- What is made of a token is what is made of the definition of the tree that starts there.
  module _ {X : Type 0} (f : ℕ → X) (make : ℕ → (m : Marked) → ℕ → Tree (unmarked m) → X)
      (agree : (k : ℕ) (m : Marked) (d : ℕ) (t : Tree (unmarked m)) → Node k m d t → f d ≡ make k m d t) where
    abbrev from : ℕ → List X
    from d = map f (hits (begins cs) d (landmark.last_token cs))

    -- the part is a row of definitions
    pub record Row (m : Marked) (d : ℕ) (t : Tree (unmarked m)) : Type 0 where
      pub opens : 0 < start_at cs d
      pub row : from d ≡ parts definition make m d t ++ from (d + size m t)

    abbrev Rows : Marked → Type 0
    Rows m = (d : ℕ) (t : Tree (unmarked m)) → At cs m d t → d + size m t ≤ landmark.last_token cs → 0 < start_at cs (d + size m t) → Row m d t

    line_row : (k : ℕ) (m : Marked) → T (line_passes k m) → Rows (mark definition k m)
    line_row k m p d t at inside closed = record {
      opens = some_start k m p d t place;
      row = ap (map f) (next_hits k m p d t place inside closed)
          ∙ ap (λ x. x ∷ from (d + size m t)) (agree k m d t (node k m p d t place inside closed));
    }
      where
        place : At cs m d t
        place = record { classes = at.classes; starts = at.starts }

    either_row : (a b : Marked) → Rows a → Rows b → Rows (a either b)
    either_row a b f g d (inl t) at inside closed =
        let r = f d t (record { classes = at.classes; starts = at.starts }) inside closed in
        record { opens = r.opens; row = r.row }
    either_row a b f g d (inr t) at inside closed =
        let r = g d t (record { classes = at.classes; starts = at.starts }) inside closed in
        record { opens = r.opens; row = r.row }

    pub lines_row : (m : Marked) → T (lines_pass m) → Rows m
    lines_row nothing p = absurd p
    lines_row nil p = absurd p
    lines_row (word c) p = absurd p
    lines_row (a then b) p = absurd p
    lines_row (a either b) p =
        either_row a b (lines_row a (and_left (lines_pass a) (lines_pass b) p)) (lines_row b (and_right (lines_pass a) (lines_pass b) p))
    lines_row (steps a b) p = absurd p
    lines_row (mark g k a) p =
        subst (λ h. Rows (mark h k a)) (sym (eqb→eq g definition (and_left (eqb g definition) (line_passes k a) p)))
        (line_row k a (and_right (eqb g definition) (line_passes k a) p))

    -- any number of them
    pub many_row : (m : Marked) → T (lines_pass m) → Rows (many m)
    many_row m p d (last t) at inside closed = record {
      opens = subst (λ i. 0 < start_at cs i) (add-zero d) closed;
      row = ap from (sym (add-zero d));
    }
    many_row m p d (step s more) at inside closed =
        let both = length-append (yield (unmarked m) s) (yield (unmarked (many m)) more) in
        let on : d + size (many m) (step s more) ≡ d + size m s + size (many m) more = omega (arith, both) in
        let rest =
        many_row m p (d + size m s) more (at_more cs m nil d s more at) (omega (arith, on))
        (subst (λ i. 0 < start_at cs i) on closed) in
        let one = lines_row m p d s (at_step cs m nil d s more at) (omega (arith, on)) rest.opens in
        record {
          opens = one.opens;
          row =
              one.row ∙ ap (λ l. parts definition make m d s ++ l)
              (rest.row ∙ ap (λ i. parts definition make (many m) (d + size m s) more ++ from i) (sym on))
              ∙ sym (append_assoc (parts definition make m d s) (parts definition make (many m) (d + size m s) more)
              (from (d + size (many m) (step s more))));
        }
