-- The needs that the landmarks show are the uses of the tree: read from the left, what stands before a token is shown by ten answers, and
-- with the token's class they say what it is needed as.
-- Assumes nothing.
use mathlib.Core.Path.{◌≡◌, refl, sym, ap, ap₂, ◌∙◌, subst}
use mathlib.Core.Bool.{Bool, true, false, cond, not, ◌&&◌}
use mathlib.Core.List.{List, [], ◌∷◌, ◌++◌, map, map-append}
use mathlib.Core.Logic.{inl, inr}
use Prim.Native.Nat.{ℕ, suc, ◌+◌, ◌-◌, ◌<◌}
use native.Mathlib.Nat.{add-zero}
use native.Mathlib.Omega.{arith}
use borrow.Author.Tests.{eqb-true}
use lib.Dec.{T, eqb}
use lib.ListN.{length, get_or, length-append}
use Rattle.grammar.specs.Rule.{Tree, yield}
use Rattle.index.specs.First.{hits}
use Rattle.index.proofs.Hits.{hits_hit, hits_miss, hits_none}
use Rattle.terminal.specs.Terminal.{terminals, Upper, left_brace, right_brace, assign, semicolon, OBJECT-TYPE, OF, SYNTAX}
use Rattle.definition.specs.Landmark.{class_at, is_lower, is_defining, is_macro}
use Rattle.name_kind.specs.declared.need.Need.{Need}
use Rattle.name_kind.specs.declared.need.Need.TheVariants.{NoName, Macro, TypeName, ObjectType, Head, Object, Sequence}
use Rattle.name_kind.specs.Need.{enclosing, upper_need, lists_objects, lower_need, need_at}
use Rattle.scope.specs.Import.{imports_end}
use Rattle.module_tree.specs.Marked.{many, unmarked, leaves, marks, size}
use Rattle.module_tree.specs.Grammar.{used, imports, import_group, identity, def, definitions, module_tree, need_number, need_of}
use Rattle.module_tree.specs.Module.{is_none, numbered}
use Rattle.module_tree.specs.OfTree.{is_needed, needs_in}
use Rattle.module_tree.proofs.Answers.{same_answers, answers_self, answers_equal, answer, every_state, dead_state}
use Rattle.module_tree.proofs.Flow.{has, reaches, arrives, from_left}
use Rattle.module_tree.proofs.Machine.{after, mark_of, unchecked, unchecked_after, passes, reads_left, classed}
use Rattle.module_tree.proofs.Counted.{among, ends_among, ended_among, absent, unmarked_part}
use Rattle.module_tree.proofs.Line.{identity_passes, def_passes}
use Rattle.module_tree.proofs.Watch.{watched_after, watched_outputs}
use Rattle.module_tree.proofs.Imports.{text, end_early, end, end_is, end_there}
use Rattle.module_tree.proofs.Starts.{start_at}
use Rattle.module_tree.proofs.Definitions.{opens_there, imports_quiet, imports_bare, whole}
use Rattle.module_tree.proofs.Place.{leaves_long, marks_long}
use Rattle.module_tree.proofs.Leading.{Stands, along_left, along_right, along_drop, stands_all}

-- one token more
abbrev next : List Bool → ℕ → List Bool
next s c =
    eqb c OF
    ∷ eqb c SYNTAX
    ∷ answer s 3
    ∷ eqb c OBJECT-TYPE
    ∷ is_lower c
    ∷ eqb c left_brace
    ∷ lists_objects c
    ∷ eqb c assign
    ∷ cond (eqb c left_brace) (answer s 6) (cond (eqb c right_brace) false (answer s 8))
    ∷ cond (eqb c left_brace) (answer s 7) (cond (eqb c right_brace) false (answer s 9))
    ∷ []

-- the definition of `need_at`, by what is shown
abbrev shows_need : List Bool → ℕ → Need
shows_need s c =
    cond (is_macro c) Macro
    (cond (eqb c Upper)
    (cond (answer s 0) Sequence (cond (answer s 1) (cond (answer s 2) ObjectType TypeName) (cond (answer s 4) TypeName NoName)))
    (cond (is_lower c) (cond (answer s 8) Object (cond (answer s 9 && answer s 5) Head NoName)) NoName))

abbrev out : List Bool → ℕ → ℕ
out s c = need_number (shows_need s c)

-- nothing is shown
abbrev blank : List Bool
blank = false ∷ false ∷ false ∷ false ∷ false ∷ false ∷ false ∷ false ∷ false ∷ false ∷ []

-- behind the imports nothing is shown, and so it is behind END
imports_blank : T (reaches same_answers every_state (unchecked next out) used true imports 0 (blank ∷ []) (blank ∷ []))
unfolding lists_objects
imports_blank = tt

-- the test of the whole grammar
tested : T (passes next out same_answers every_state dead_state answers_self answers_equal true used 0 definitions (blank ∷ []) (blank ∷ []))
unfolding lists_objects is_macro is_defining
tested = tt

-- ---- what is shown at a token

push : (f : ℕ → Bool) (b c : Bool) (x z : ℕ) → f terminals ≡ false → f (cond b x (cond c terminals z)) ≡ cond b (f x) (cond c false (f z))
push f true c x z e = refl
push f false true x z e = e
push f false false x z e = refl

module _ (cs : List ℕ) where
  state : ℕ → List Bool
  state i =
      eqb (class_at cs (i - 1)) OF
      ∷ eqb (class_at cs (i - 1)) SYNTAX
      ∷ eqb (class_at cs (i - 2)) OBJECT-TYPE
      ∷ eqb (class_at cs (i - 1)) OBJECT-TYPE
      ∷ is_lower (class_at cs (i - 1))
      ∷ eqb (class_at cs (i - 1)) left_brace
      ∷ lists_objects (class_at cs (i - 1))
      ∷ eqb (class_at cs (i - 1)) assign
      ∷ lists_objects (enclosing cs i)
      ∷ eqb (enclosing cs i) assign
      ∷ []

  no_list : lists_objects terminals ≡ false
  unfolding lists_objects
  no_list = refl

  moves : (i : ℕ) → state (suc i) ≡ next (state i) (class_at cs i)
  unfolding state enclosing
  moves i =
      let c = class_at cs i in
      let one : suc i - 1 ≡ i = omega arith in
      let two : suc i - 2 ≡ i - 1 = omega arith in
      rw (one, two)
      (ap₂ (λ x y. eqb c OF ∷ eqb c SYNTAX ∷ eqb
      (class_at cs (i - 1)) OBJECT-TYPE ∷ eqb c OBJECT-TYPE ∷ is_lower c ∷ eqb c left_brace ∷ lists_objects c ∷ eqb c assign ∷ x ∷ y ∷ [])
      (push lists_objects (eqb c left_brace) (eqb c right_brace) (class_at cs (i - 1)) (enclosing cs i) no_list)
      (push (λ x. eqb x assign) (eqb c left_brace) (eqb c right_brace) (class_at cs (i - 1)) (enclosing cs i) refl))

  need_is : (i : ℕ) → need_number (need_at cs i) ≡ out (state i) (class_at cs i)
  unfolding state need_at upper_need lower_need
  need_is i = refl

  -- the tokens where a name is needed, each with its need
  abbrev needed : ℕ → Bool
  needed i = is_needed (need_at cs i)

  abbrev with_need : ℕ → ℕ × Need
  with_need i = (i, need_at cs i)

  abbrev decoded : ℕ × ℕ → ℕ × Need
  decoded p = (p.0, need_of p.1)

  need_back : (n : Need) → need_of (need_number n) ≡ n
  need_back NoName = refl
  need_back Macro = refl
  need_back TypeName = refl
  need_back ObjectType = refl
  need_back Head = refl
  need_back Object = refl
  need_back Sequence = refl

  need_some : (n : Need) → is_needed n ≡ not (is_none (need_number n))
  need_some NoName = refl
  need_some Macro = refl
  need_some TypeName = refl
  need_some ObjectType = refl
  need_some Head = refl
  need_some Object = refl
  need_some Sequence = refl

  -- along a list of marks
  needs_row : (vs : List ℕ) (d b : ℕ) → d + length vs ≡ b → ((j : ℕ) → j < length vs → need_number (need_at cs (d + j)) ≡ get_or vs j 0)
      → map with_need (hits needed d b) ≡ map decoded (numbered d vs)
  needs_row [] d b e same = ap (map with_need) (hits_none needed d b (omega arith))
  needs_row (v ∷ vs) d b e same =
      go (is_none v) refl
      (needs_row vs (suc d) b (omega arith)
      (λ j l. let on : suc d + j ≡ d + suc j = omega arith in ap (λ i. need_number (need_at cs i)) on ∙ same (suc j) (omega arith)))
    where
      here : need_number (need_at cs d) ≡ v
      here = ap (λ i. need_number (need_at cs i)) (sym (add-zero d)) ∙ same 0 (omega arith)

      is : needed d ≡ not (is_none v)
      is = need_some (need_at cs d) ∙ ap (λ x. not (is_none x)) here

      go : (c : Bool) → is_none v ≡ c → map with_need (hits needed (suc d) b) ≡ map decoded (numbered (suc d) vs)
          → map with_need (hits needed d b) ≡ map decoded (cond c (numbered (suc d) vs) ((d, v) ∷ numbered (suc d) vs))
      go true k ih = ap (map with_need) (hits_miss needed d b (omega arith) (is ∙ ap not k)) ∙ ih
      go false k ih =
          ap (map with_need) (hits_hit needed d b (omega arith) (is ∙ ap not k))
          ∙ ap₂ (λ x y. x ∷ y) (ap (λ n. (d, n)) (sym (need_back (need_at cs d)) ∙ ap need_of here)) ih

-- ---- the numbering of marks
numbered_append : (d : ℕ) (xs ys : List ℕ) → numbered d (xs ++ ys) ≡ numbered d xs ++ numbered (d + length xs) ys
numbered_append d [] ys = ap (λ i. numbered i ys) (sym (add-zero d))
numbered_append d (x ∷ xs) ys = go (is_none x) (numbered_append (suc d) xs ys)
  where
    on : suc d + length xs ≡ d + suc (length xs)
    on = omega arith

    go : (c : Bool) → numbered (suc d) (xs ++ ys) ≡ numbered (suc d) xs ++ numbered (suc d + length xs) ys
        → cond c (numbered (suc d) (xs ++ ys)) ((d, x) ∷ numbered (suc d) (xs ++ ys)) ≡ cond c (numbered (suc d) xs) ((d, x) ∷ numbered (suc d) xs) ++ numbered (d + suc (length xs)) ys
    go true ih = ih ∙ ap (λ i. numbered (suc d) xs ++ numbered i ys) on
    go false ih = ap (λ l. (d, x) ∷ l) (ih ∙ ap (λ i. numbered (suc d) xs ++ numbered i ys) on)

numbered_none : (d : ℕ) (vs : List ℕ) → ((j : ℕ) → get_or vs j 0 ≡ 0) → numbered d vs ≡ []
numbered_none d [] none = refl
numbered_none d (v ∷ vs) none = rw (none 0) (numbered_none (suc d) vs (λ j. none (suc j)))

-- ---- the imports, and what follows them
imports_unused : T (absent used imports)
imports_unused = tt

-- the first token of a part has no mark: a definition's own name is no use
abbrev first_bare : ℕ → ℕ → ℕ → ℕ
first_bare s c v = cond (eqb s 0) (cond (is_none v) 1 2) s

definitions_bare : T (ends_among first_bare used definitions (1 ∷ []))
definitions_bare = tt

first_of : (w : Tree (unmarked definitions)) → (0 < size definitions w) × (get_or (marks used definitions w) 0 0 ≡ 0)
first_of w =
    let ps = leaves used 0 definitions w in
    let h = go ps (ended_among first_bare used definitions (1 ∷ []) definitions_bare w) in
    (omega (arith, h.0, leaves_long used 0 definitions w), h.1)
  where
    stays_two : (ps : List (ℕ × ℕ)) → from_left first_bare 2 ps ≡ 2
    stays_two [] = refl
    stays_two (p ∷ ps) = stays_two ps

    go : (ps : List (ℕ × ℕ)) → T (among (from_left first_bare 0 ps) (1 ∷ [])) → (0 < length ps) × (get_or (map mark_of ps) 0 0 ≡ 0)
    go [] h = absurd h
    go (p ∷ ps) h = at (is_none p.1) refl h
      where
        at : (b : Bool) → is_none p.1 ≡ b → T (among (from_left first_bare (cond b 1 2) ps) (1 ∷ []))
            → (0 < suc (length ps)) × (p.1 ≡ 0)
        at true e k = (omega arith, eqb-true p.1 0 e)
        at false e k = absurd (subst (λ s. T (among s (1 ∷ []))) (stays_two ps) k)

module _ (i : Tree (unmarked imports)) (w : Tree (unmarked definitions)) where
  abbrev cs : List ℕ
  cs = text definitions i w

  abbrev from : ℕ
  from = 4 + size imports i

  text_long : length cs ≡ from + size definitions w
  text_long = let a = length-append (yield (unmarked imports) i) (yield (unmarked definitions) w) in omega (arith, a)

  behind_heading : Stands cs 4 (yield (unmarked imports) i ++ yield (unmarked definitions) w)
  behind_heading = along_drop (class_at cs) 0 4 cs (stands_all cs)

  definitions_stand : Stands cs from (yield (unmarked definitions) w)
  definitions_stand = along_right (class_at cs) 4 (yield (unmarked imports) i) (yield (unmarked definitions) w) behind_heading

  blank_there : state cs 4 ≡ blank
  unfolding state enclosing lists_objects
  blank_there = refl

  -- what is shown behind the imports
  shown_there : T (has same_answers every_state (state cs from) (blank ∷ []))
  shown_there =
      subst (λ s. T (has same_answers every_state s (blank ∷ [])))
      (unchecked_after next out blank (leaves used 0 imports i) ∙ ap (after next out blank) (classed used imports 0 i)
      ∙ ap (λ s. after next out s (yield (unmarked imports) i)) (sym blank_there)
      ∙ watched_after next out (class_at cs) (state cs) (moves cs) (yield (unmarked imports) i) 4
      (along_left (class_at cs) 4 (yield (unmarked imports) i) (yield (unmarked definitions) w) behind_heading))
      (arrives same_answers every_state answers_self answers_equal (unchecked next out) used true imports 0 (blank ∷ [])
      (blank ∷ []) imports_blank i blank tt)

  need_marked : (j : ℕ) → j < size definitions w → need_number (need_at cs (from + j)) ≡ get_or (marks used definitions w) j 0
  need_marked j h =
      need_is cs (from + j)
      ∙ sym (watched_outputs next out (class_at cs) (state cs) (moves cs) (yield (unmarked definitions) w) from definitions_stand j h)
      ∙ ap (λ l. get_or l j 0)
      (reads_left next out same_answers every_state dead_state answers_self answers_equal used 0 definitions (blank ∷ []) (blank ∷ []) w
      (state cs from) shown_there tested).0

  needs_from : map (with_need cs) (hits (needed cs) from (length cs)) ≡ map (decoded cs) (numbered from (marks used definitions w))
  needs_from =
      let n = marks_long used definitions w in
      needs_row cs (marks used definitions w) from (length cs) (omega (arith, text_long, n)) (λ j h. need_marked j (omega (arith, n)))

  -- the tree's uses are those of its definitions
  uses_from : numbered 4 (map mark_of (leaves used 0 imports i ++ leaves used 0 definitions w)) ≡ numbered from (marks used definitions w)
  uses_from =
      ap (numbered 4) (map-append mark_of (leaves used 0 imports i) (leaves used 0 definitions w))
      ∙ numbered_append 4 (marks used imports i) (marks used definitions w)
      ∙ ap (λ l. l ++ numbered (4 + length (marks used imports i)) (marks used definitions w))
      (numbered_none 4 (marks used imports i) (unmarked_part used imports imports_unused i))
      ∙ ap (λ n. numbered (4 + n) (marks used definitions w)) (marks_long used imports i)

-- at `;` no name is needed
no_need : (l : List ℕ) (i : ℕ) → class_at l i ≡ semicolon → need_at l i ≡ NoName
unfolding need_at is_macro is_defining
no_need l i e = rw e

-- the imports end at `;`, or in a module that has none at a definition's own name: neither is a use
gap : (i : Tree (unmarked imports)) (w : Tree (unmarked definitions)) → 0 < start_at (cs i w) (from i w)
    → hits (needed (cs i w)) (imports_end (cs i w)) (length (cs i w)) ≡ hits (needed (cs i w)) (from i w) (length (cs i w))
gap (inl x) w opens =
    let l = cs (inl x) w in
    let first = first_of w in
    let end : imports_end l ≡ 5 = omega (arith, end_early definitions x w opens, text_long (inl x) w, first.0) in
    let bare : needed l 4 ≡ false =
    need_some l (need_at l 4) ∙ ap (λ n. not (is_none n)) (need_marked (inl x) w 0 first.0 ∙ first.1) in
    ap (λ n. hits (needed l) n (length l)) end
    ∙ sym (hits_miss (needed l) 4 (length l) (omega (arith, text_long (inl x) w, first.0)) bare)
gap (inr x) w opens =
    let g = x.1.0 in
    let gs = x.1.1.0 in
    let l = cs (inr x) w in
    let e = end definitions g gs w in
    let a = length-append (yield (unmarked import_group) g) (yield (unmarked (many import_group)) gs ++ semicolon ∷ []) in
    let b = length-append (yield (unmarked (many import_group)) gs) (semicolon ∷ []) in
    let on : suc e ≡ from (inr x) w = omega (arith, a, b) in
    ap (λ n. hits (needed l) n (length l)) (end_is definitions g gs w)
    ∙ hits_miss (needed l) e (length l) (omega (arith, text_long (inr x) w, on, (first_of w).0))
    (ap is_needed (no_need l e (end_there definitions g gs w)))
    ∙ ap (λ n. hits (needed l) n (length l)) on

-- ---- the module of the grammar
pub module_needs : (t : Tree (unmarked module_tree))
    → needs_in (yield (unmarked module_tree) t) ≡ map (λ (p : ℕ × ℕ). (p.0, need_of p.1)) (numbered 0 (marks used module_tree t))
unfolding module_tree
module_needs t =
    let i = t.1.1.1.1.0 in
    let w = t.1.1.1.1.1 in
    ap (map (with_need (cs i w)))
    (gap i w (opens_there imports identity def imports_quiet imports_bare identity_passes def_passes (yield (unmarked module_tree) t) t
    (whole t) refl))
    ∙ needs_from i w ∙ ap (map (decoded (cs i w))) (sym (uses_from i w))
