-- The imports that the landmarks show are those of the tree: first of one group, then of all.
-- Assumes nothing.
use mathlib.Core.Path.{◌≡◌, refl, sym, ap, ap₂, ◌∙◌, subst}
use mathlib.Core.Bool.{Bool, true, false, cond, not, ◌&&◌, ◌||◌}
use mathlib.Core.List.{List, [], ◌∷◌, ◌++◌, map, map-append, append_assoc, append-nil}
use mathlib.Core.Logic.{inl, inr}
use Prim.Native.Nat.{ℕ, zero, suc, ◌+◌, ◌-◌, ◌≤◌, ◌<◌, min}
use native.Mathlib.Decide.{dec_lt}
use native.Mathlib.Nat.{add-zero}
use native.Mathlib.Omega.{arith}
use borrow.Author.Tests.{eq-eqb, le-leb, lt-leb, lt-ltb, le-ltb, eqb-true}
use lib.Dec.{T, eqb, leb, eqb→eq}
use lib.ListN.{length, get_or, length-append, length-map}
use lib.Seq.{get_or-append-add}
use Rattle.grammar.specs.Rule.{Tree, yield, last, step}
use Rattle.grammar.specs.Grammar.{lower, Upper, macro_word}
use Rattle.grammar.specs.Rule.{◌or◌}
use Rattle.index.specs.First.{hits}
use Rattle.index.proofs.Search.{first_is}
use Rattle.index.proofs.Hits.{hits_none}
use Rattle.terminal.specs.Terminal.{assign, semicolon, BEGIN, DEFINITIONS, FROM, IMPORTS}
use Rattle.terminal.specs.Terminal.{Upper as upper-name}
use Rattle.definition.specs.Landmark.{class_at, is_defining, is_macro, before_object_identifier, begins, kind_at}
use Rattle.definition.specs.Fields.{find}
use Rattle.scope.specs.Import.{imports_start, imports_end, can_be_imported, is_symbol, is_import, source}
use Rattle.module_tree.specs.Marked.{Marked, word, ◌then◌, mark, many, plain, listed, unmarked, leaves, marks, size, parts}
use Rattle.module_tree.specs.Grammar.{import, imports, import_group, symbol, group, identity, def, definitions, module_tree}
use Rattle.module_tree.specs.Grammar as grammar
use Rattle.module_tree.specs.Module.{leading, places, imports_of_part, in_a_row}
use Rattle.module_tree.specs.OfTree.{imports_in}
use Rattle.module_tree.proofs.Parts.{without, no_parts}
use Rattle.module_tree.proofs.Definitions.{opens_there, imports_quiet, imports_bare, whole}
use Rattle.module_tree.proofs.Flow.{from_left}
use Rattle.module_tree.proofs.Machine.{after, outputs, mark_of}
use Rattle.module_tree.proofs.Leading.{Stands, along_first, along_left, along_right, along_drop, stands_all}
use Rattle.module_tree.proofs.Place.{marks_long, hits_skip}
use Rattle.module_tree.proofs.Starts.{start_at}
use Rattle.module_tree.proofs.Counted.{among, ends_among, ended_among, reads, marks_are, ends_in}
use Rattle.module_tree.proofs.Line.{identity_passes, def_passes}
use Rattle.module_tree.proofs.Watch.{watched_after, watched_outputs, avoids, never_there, hits_places, map_places}

-- the symbols of a group, and the group
abbrev symbols : Marked
symbols = listed (mark import symbol (plain (lower or Upper or macro_word)))

abbrev inside : Marked
inside = symbols then word FROM then mark import grammar.source (plain Upper)

-- ---- the machine: whether FROM stands directly before
abbrev next : ℕ → ℕ → ℕ
next s c = cond (eqb c FROM) 1 0

abbrev out : ℕ → ℕ → ℕ
out s c = cond (eqb s 1) grammar.source (cond (can_be_imported c) symbol 0)

group_read : T (reads next out import (0 ∷ []) inside)
unfolding can_be_imported is_macro is_defining
group_read = tt

symbols_no_from : T (avoids FROM symbols)
symbols_no_from = tt

group_no_end : T (avoids semicolon import_group)
group_no_end = tt

groups_no_end : T (avoids semicolon (many import_group))
groups_no_end = tt

-- no symbol is a source
abbrev no_source : ℕ → ℕ → ℕ → ℕ
no_source s c v = cond (eqb v grammar.source) 1 s

symbols_no_source : T (ends_among no_source import symbols (0 ∷ []))
symbols_no_source = tt

no_source_stays : (ps : List (ℕ × ℕ)) → from_left no_source 1 ps ≡ 1
no_source_stays [] = refl
no_source_stays (p ∷ ps) = ap (λ s. from_left no_source s ps) (go (eqb p.1 grammar.source)) ∙ no_source_stays ps
  where
    go : (b : Bool) → ◌≡◌ {A = ℕ} (cond b 1 1) 1
    go true = refl
    go false = refl

abbrev no_mark : ℕ → Bool
no_mark v = not (eqb v grammar.source)

none_lead : (ps : List (ℕ × ℕ)) → T (among (from_left no_source 0 ps) (0 ∷ [])) → leading no_mark (map mark_of ps) ≡ length ps
none_lead [] h = refl
none_lead (p ∷ ps) h = go (eqb p.1 grammar.source) h (none_lead ps)
  where
    go : (b : Bool) → T (among (from_left no_source (cond b 1 0) ps) (0 ∷ []))
        → (T (among (from_left no_source 0 ps) (0 ∷ [])) → leading no_mark (map mark_of ps) ≡ length ps)
        → cond (not b) (suc (leading no_mark (map mark_of ps))) 0 ≡ suc (length ps)
    go true k ih = absurd (subst (λ s. T (among s (0 ∷ []))) (no_source_stays ps) k)
    go false k ih = ap suc (ih k)

leading_append : (test : ℕ → Bool) (xs ys : List ℕ) → leading test xs ≡ length xs → leading test (xs ++ ys) ≡ length xs + leading test ys
leading_append test [] ys e = omega arith
leading_append test (x ∷ xs) ys e = go (test x) e (leading_append test xs ys)
  where
    go : (b : Bool) → cond b (suc (leading test xs)) 0 ≡ suc (length xs)
        → (leading test xs ≡ length xs → leading test (xs ++ ys) ≡ length xs + leading test ys)
        → cond b (suc (leading test (xs ++ ys))) 0 ≡ suc (length xs) + leading test ys
    go true k ih = let more = ih (omega arith) in omega arith
    go false k ih = absurd (omega arith)

zero_of : (s : ℕ) → T (among s (0 ∷ [])) → s ≡ 0
zero_of s h = sym (eqb→eq 0 s (go (eqb 0 s) h))
  where
    go : (b : Bool) → T ((b || false) || false) → T b
    go true k = tt
    go false k = k

module _ (cs : List ℕ) where
  state : ℕ → ℕ
  state i = cond (eqb (class_at cs (i - 1)) FROM) 1 0

  moves : (i : ℕ) → state (suc i) ≡ next (state i) (class_at cs i)
  unfolding state
  moves i = let same : suc i - 1 ≡ i = omega arith in rw same

  symbol_out : (i : ℕ) → is_symbol cs i ≡ eqb (out (state i) (class_at cs i)) symbol
  unfolding state is_symbol
  symbol_out i = go (eqb (class_at cs (i - 1)) FROM) (can_be_imported (class_at cs i))
    where
      go : (b c : Bool) → not b && c ≡ eqb (cond (eqb (cond b 1 0) 1) grammar.source (cond c symbol 0)) symbol
      go true c = refl
      go false true = refl
      go false false = refl

  -- an import with the module that it comes from
  abbrev sourced : ℕ → ℕ × ℕ
  sourced i = (i, source cs i)

  abbrev from : ℕ → List (ℕ × ℕ)
  from d = map sourced (hits (is_import cs) d (length cs))

  module _ (d : ℕ) (g : Tree (unmarked inside)) (st : Stands cs d (yield (unmarked inside) g)) (fresh : state d ≡ 0)
      (room : d + size inside g ≤ length cs) where
    xs : List ℕ
    xs = yield (unmarked inside) g

    marked_at : (j : ℕ) → j < size inside g → out (state (d + j)) (class_at cs (d + j)) ≡ get_or (marks import inside g) j 0
    unfolding xs
    marked_at j h =
        sym (watched_outputs next out (class_at cs) state moves xs d st j h) ∙ ap (λ s. get_or (outputs next out s xs) j 0) fresh
        ∙ ap (λ l. get_or l j 0) (marks_are next out import (0 ∷ []) inside group_read g)

    fresh_after : state (d + size inside g) ≡ 0
    unfolding xs
    fresh_after =
        sym (watched_after next out (class_at cs) state moves xs d st) ∙ ap (λ s. after next out s xs) fresh
        ∙ zero_of (after next out 0 xs) (ends_in next out import (0 ∷ []) inside group_read g)

    -- the symbols, FROM, and the module
    abbrev long : ℕ
    long = size symbols g.0

    sizes : size inside g ≡ long + 2
    sizes = length-append (yield (unmarked symbols) g.0)
        (yield (unmarked (word FROM then mark import grammar.source (plain Upper))) g.1)

    marks_split : marks import inside g ≡ marks import symbols g.0 ++ 0 ∷ grammar.source ∷ []
    marks_split = map-append mark_of (leaves import 0 symbols g.0) _

    source_at : d + leading no_mark (marks import inside g) ≡ d + long + 1
    source_at =
        let none = none_lead (leaves import 0 symbols g.0) (ended_among no_source import symbols (0 ∷ []) symbols_no_source g.0) in
        let n = marks_long import symbols g.0 in
        let lead = leading_append no_mark (marks import symbols g.0) (0 ∷ grammar.source ∷ [])
        (none ∙ sym (length-map (leaves import 0 symbols g.0) mark_of)) in
        omega (arith, ap (leading no_mark) marks_split, lead, n)

    from_there : class_at cs (d + long) ≡ FROM
    from_there =
        along_first (class_at cs) (d + long) FROM (upper-name ∷ [])
        (along_right (class_at cs) d (yield (unmarked symbols) g.0)
        (yield (unmarked (word FROM then mark import grammar.source (plain Upper))) g.1) st)

    none_before : (j : ℕ) → j < long → eqb (class_at cs (d + j)) FROM ≡ false
    none_before j h =
        ap (λ c. eqb c FROM)
        (along_left (class_at cs) d (yield (unmarked symbols) g.0)
        (yield (unmarked (word FROM then mark import grammar.source (plain Upper))) g.1) st j h)
        ∙ never_there FROM symbols symbols_no_from g.0 j h

    source_is : (j : ℕ) → j < long → source cs (d + j) ≡ d + leading no_mark (marks import inside g)
    unfolding source
    source_is j h =
        let at : find cs FROM (d + j) (length cs) ≡ d + long =
        first_is (λ (i : ℕ). eqb (class_at cs i) FROM) (d + j) (length cs) (d + long) (omega arith) (omega (arith, sizes))
        (eq-eqb (class_at cs (d + long)) FROM from_there)
        (λ i l m. let on : d + (i - d) ≡ i = omega arith in subst (λ x. eqb (class_at cs x) FROM ≡ false) on
        (none_before (i - d) (omega arith))) in
        omega (arith, at, source_at)

    -- a token with the mark of a symbol is one of the symbols
    symbol_inside : (j : ℕ) → j < size inside g → get_or (marks import inside g) j 0 ≡ symbol → j < long
    symbol_inside j h e = go (dec_lt j long)
      where
        two : (i : ℕ) → i < 2 → get_or (0 ∷ grammar.source ∷ []) i 0 ≡ symbol → ⊥
        two zero l k = omega arith
        two (suc zero) l k = omega arith
        two (suc (suc i)) l k = omega arith

        go : Dec (j < long) → j < long
        go (yes l) = l
        go (no l) =
            let n = marks_long import symbols g.0 in
            let on : length (marks import symbols g.0) + (j - long) ≡ j = omega (arith, n) in
            absurd (two (j - long) (omega (arith, sizes))
            (sym (get_or-append-add (marks import symbols g.0) (0 ∷ grammar.source ∷ []) (j - long) 0)
            ∙ ap (λ i. get_or (marks import symbols g.0 ++ 0 ∷ grammar.source ∷ []) i 0) on ∙ ap (λ l. get_or l j 0) (sym marks_split) ∙ e))

    -- the imports of the group, and what is behind it
    group_row : ((j : ℕ) → j < size inside g → is_import cs (d + j) ≡ is_symbol cs (d + j))
        → from d ≡ imports_of_part 1 inside d g ++ from (d + size inside g)
    group_row within =
        let vs = marks import inside g in
        let n = marks_long import inside g in
        ap (map sourced) (hits_places (is_import cs) symbol (length cs) vs d (omega (arith, n))
        (λ j h. within j (omega (arith, n)) ∙ symbol_out (d + j) ∙ ap (λ v. eqb v symbol) (marked_at j (omega (arith, n)))))
        ∙ map-append sourced (places symbol d vs) (hits (is_import cs) (d + length vs) (length cs))
        ∙ ap₂ (λ x y. x ++ y)
        (map_places sourced (λ i. (i, d + leading no_mark vs)) symbol vs d
        (λ j h e. ap (λ s. (d + j, s)) (source_is j (symbol_inside j (omega (arith, n)) e))))
        (ap (λ i. from (d + i)) n)

-- ---- where imports can stand
module _ (cs : List ℕ) (i : ℕ) where
  before_imports : i < imports_start → is_import cs i ≡ false
  unfolding is_import
  before_imports h = rw (lt-leb imports_start i h)

  after_imports : imports_end cs ≤ i → is_import cs i ≡ false
  unfolding is_import
  after_imports h = rw (le-ltb i (imports_end cs) h) (go (leb imports_start i))
    where
      go : (b : Bool) → (b && false) && is_symbol cs i ≡ false
      go true = refl
      go false = refl

  inside_imports : imports_start ≤ i → i < imports_end cs → is_import cs i ≡ is_symbol cs i
  unfolding is_import
  inside_imports l h = rw (le-leb imports_start i l, lt-ltb i (imports_end cs) h)

  -- nothing starts at IMPORTS
  no_start : class_at cs i ≡ IMPORTS → start_at cs i ≡ 0
  unfolding begins is_defining before_object_identifier kind_at
  no_start e = rw e

-- ---- the groups of a module, and what follows them
module _ (rest : Marked) where
  abbrev pub text : Tree (unmarked imports) → Tree (unmarked rest) → List ℕ
  text i w = upper-name ∷ DEFINITIONS ∷ assign ∷ BEGIN ∷ (yield (unmarked imports) i ++ yield (unmarked rest) w)

  -- without imports
  module _ (x : Unit {0}) (w : Tree (unmarked rest)) (opens : 0 < start_at (text (inl x) w) 4) where
    abbrev short : List ℕ
    short = text (inl x) w

    pub end_early : imports_end short ≡ min imports_start (length short)
    unfolding imports_end
    end_early = go (eqb (class_at short 4) IMPORTS) refl
      where
        go : (b : Bool) → eqb (class_at short 4) IMPORTS ≡ b
            → cond b (find short semicolon imports_start (length short)) (min imports_start (length short)) ≡ min imports_start (length short)
        go true e = absurd (omega (arith, no_start short 4 (eqb-true (class_at short 4) IMPORTS e)))
        go false e = refl

    none_at_all : (i : ℕ) → is_import short i ≡ false
    none_at_all i = go (dec_lt i imports_start)
      where
        go : Dec (i < imports_start) → is_import short i ≡ false
        go (yes l) = before_imports short i l
        go (no l) = after_imports short i (omega (arith, end_early))

    no_imports : from short 0 ≡ []
    no_imports =
        ap (map (sourced short)) (hits_skip (is_import short) (length short) 0 (length short) (omega arith) (λ i l h. none_at_all i)
        ∙ hits_none (is_import short) (0 + length short) (length short) (omega arith))

  -- with imports
  module _ (g : Tree (unmarked import_group)) (gs : Tree (unmarked (many import_group))) (w : Tree (unmarked rest)) where
    abbrev pub cs : List ℕ
    cs = text (inr (tt, (g, (gs, tt)))) w

    abbrev pub end : ℕ
    end = 5 + size import_group g + size (many import_group) gs

    -- the groups, `;` and the rest stand where they should
    groups_stand : Stands cs 5 (yield (unmarked import_group) g ++ ((yield (unmarked (many import_group)) gs ++ semicolon ∷ []) ++ yield (unmarked rest) w))
    groups_stand =
        subst (λ l. Stands cs 5 l)
        (append_assoc (yield (unmarked import_group) g) (yield (unmarked (many import_group)) gs ++ semicolon ∷ [])
        (yield (unmarked rest) w))
        (along_drop (class_at cs) 0 5 cs (stands_all cs))

    more_stand : Stands cs (5 + size import_group g) (yield (unmarked (many import_group)) gs ++ (semicolon ∷ yield (unmarked rest) w))
    more_stand =
        subst (λ l. Stands cs (5 + size import_group g) l)
        (append_assoc (yield (unmarked (many import_group)) gs) (semicolon ∷ []) (yield (unmarked rest) w))
        (along_right (class_at cs) 5 (yield (unmarked import_group) g) _ groups_stand)

    no_end : (i : ℕ) → 5 ≤ i → i < end → eqb (class_at cs i) semicolon ≡ false
    no_end i l h = go (dec_lt i (5 + size import_group g))
      where
        go : Dec (i < 5 + size import_group g) → eqb (class_at cs i) semicolon ≡ false
        go (yes m) =
            let on : 5 + (i - 5) ≡ i = omega arith in
            ap (λ j. eqb (class_at cs j) semicolon) (sym on)
            ∙ ap (λ c. eqb c semicolon) (along_left (class_at cs) 5 (yield (unmarked import_group) g) _ groups_stand (i - 5) (omega arith))
            ∙ never_there semicolon import_group group_no_end g (i - 5) (omega arith)
        go (no m) =
            let j : ℕ = i - (5 + size import_group g) in
            let on : 5 + size import_group g + j ≡ i = omega arith in
            ap (λ j. eqb (class_at cs j) semicolon) (sym on)
            ∙ ap (λ c. eqb c semicolon)
            (along_left (class_at cs) (5 + size import_group g) (yield (unmarked (many import_group)) gs)
            (semicolon ∷ yield (unmarked rest) w) more_stand j (omega arith))
            ∙ never_there semicolon (many import_group) groups_no_end gs j (omega arith)

    pub end_there : class_at cs end ≡ semicolon
    end_there =
        along_first (class_at cs) end semicolon (yield (unmarked rest) w)
        (along_right (class_at cs) (5 + size import_group g) (yield (unmarked (many import_group)) gs)
        (semicolon ∷ yield (unmarked rest) w) more_stand)

    text_long : length cs ≡ end + 1 + size rest w
    text_long =
        let a = length-append (yield (unmarked import_group) g ++ (yield (unmarked (many import_group)) gs ++ semicolon ∷ []))
        (yield (unmarked rest) w) in
        let b = length-append (yield (unmarked import_group) g) (yield (unmarked (many import_group)) gs ++ semicolon ∷ []) in
        let c = length-append (yield (unmarked (many import_group)) gs) (semicolon ∷ []) in
        omega (arith, a, b, c)

    pub end_is : imports_end cs ≡ end
    unfolding imports_end
    end_is =
        first_is (λ (i : ℕ). eqb (class_at cs i) semicolon) 5 (length cs) end (omega arith) (omega (arith, text_long))
        (eq-eqb (class_at cs end) semicolon end_there) no_end

    -- the groups behind the first
    rows : (d : ℕ) (more : Tree (unmarked (many import_group))) → Stands cs d (yield (unmarked (many import_group)) more) → state cs d ≡ 0
        → 5 ≤ d
        → d + size (many import_group) more ≡ end
        → from cs d ≡ in_a_row (parts group imports_of_part (many import_group) d more) ++ from cs end
    rows d (last t) st fresh l e = ap (from cs) (sym (add-zero d) ∙ e)
    rows d (step s more) st fresh l e =
        let both = length-append (yield (unmarked import_group) s) (yield (unmarked (many import_group)) more) in
        let behind = size (many import_group) more in
        let here = along_left (class_at cs) d (yield (unmarked import_group) s) (yield (unmarked (many import_group)) more) st in
        let room : d + size import_group s ≤ length cs = omega (arith, text_long, both) in
        group_row cs d s here fresh room (λ j h. inside_imports cs (d + j) (omega arith) (omega (arith, end_is, both)))
        ∙ ap (λ x. imports_of_part 1 inside d s ++ x)
        (rows (d + size import_group s) more
        (along_right (class_at cs) d (yield (unmarked import_group) s) (yield (unmarked (many import_group)) more) st)
        (fresh_after cs d s here fresh room) (omega arith) (omega (arith, both)))
        ∙ sym (append_assoc (imports_of_part 1 inside d s)
        (in_a_row (parts group imports_of_part (many import_group) (d + size import_group s) more)) (from cs end))

    none_behind : from cs end ≡ []
    none_behind =
        ap (map (sourced cs))
        (hits_skip (is_import cs) (length cs - end) end (length cs) (omega (arith, text_long))
        (λ i l h. after_imports cs i (omega (arith, end_is)))
        ∙ hits_none (is_import cs) (end + (length cs - end)) (length cs) (omega (arith, text_long)))

    all_imports : from cs 0 ≡ in_a_row (parts group imports_of_part imports 4 (inr (tt, (g, (gs, tt)))))
    unfolding state
    all_imports =
        let here = along_left (class_at cs) 5 (yield (unmarked import_group) g) _ groups_stand in
        let room : 5 + size import_group g ≤ length cs = omega (arith, text_long) in
        let l = in_a_row (parts group imports_of_part (many import_group) (5 + size import_group g) gs) in
        ap (map (sourced cs)) (hits_skip (is_import cs) 5 0 (length cs) (omega (arith, text_long)) (λ i l h. before_imports cs i h))
        ∙ group_row cs 5 g here refl room (λ j h. inside_imports cs (5 + j) (omega arith) (omega (arith, end_is)))
        ∙ ap (λ x. imports_of_part 1 inside 5 g ++ x)
        (rows (5 + size import_group g) gs
        (along_left (class_at cs) (5 + size import_group g) (yield (unmarked (many import_group)) gs)
        (semicolon ∷ yield (unmarked rest) w) more_stand)
        (fresh_after cs 5 g here refl room) (omega arith) refl
        ∙ ap (λ x. l ++ x) none_behind ∙ append-nil l
        ∙ sym (ap in_a_row (append-nil (parts group imports_of_part (many import_group) (5 + size import_group g) gs))))

  -- both cases
  either_way : (i : Tree (unmarked imports)) (w : Tree (unmarked rest)) → 0 < start_at (text i w) (4 + size imports i)
      → from (text i w) 0 ≡ in_a_row (parts group imports_of_part imports 4 i)
  either_way (inl x) w opens = no_imports x w opens
  either_way (inr x) w opens = all_imports x.1.0 x.1.1.0 w

-- ---- the module of the grammar

definitions_import_none : T (without group definitions)
definitions_import_none = tt

pub module_imports : (t : Tree (unmarked module_tree))
    → imports_in (yield (unmarked module_tree) t) ≡ in_a_row (parts group imports_of_part module_tree 0 t)
unfolding module_tree
module_imports t =
    let i = t.1.1.1.1.0 in
    let w = t.1.1.1.1.1 in
    let l = parts group imports_of_part imports 4 i in
    either_way definitions i w
    (opens_there imports identity def imports_quiet imports_bare identity_passes def_passes (yield (unmarked module_tree) t) t
    (whole t) refl)
    ∙ sym (ap in_a_row (ap (λ x. l ++ x) (no_parts group imports_of_part definitions definitions_import_none (4 + size imports i) w)
    ∙ append-nil l))
