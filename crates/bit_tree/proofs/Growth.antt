-- The laws of trees: how they start and grow, and the walk of an entry, which passes no earlier entry that is the same.
-- Assumes nothing.
use mathlib.Core.Path.{◌≡◌, refl, sym, ap, subst, ◌∙◌}
use mathlib.Core.Bool.{Bool, true, false}
use mathlib.Core.List.{List}
use mathlib.Core.Logic.{◌⊎◌, inl, inr}
use Prim.Native.Nat.{ℕ, zero, suc, ◌+◌, ◌≤◌, ◌<◌}
use native.Mathlib.Decide.{dec_lt, ℕ_discrete}
use native.Mathlib.Numerals.{add-one}
use native.Mathlib.Omega.{arith}
use Rattle.index.proofs.Search.{true_false, answers}
use Rattle.bit_tree.specs.Tree.{child, place_of, step, place, Inside, Tree, Hung}

-- ---- places

-- a child as a place, and back
place_some : (c : ℕ) → 0 < c → place_of c ≡ suc c
unfolding place_of
place_some zero h = absurd (omega arith)
place_some (suc c) h = refl

place_zero : place_of 0 ≡ 0
unfolding place_of
place_zero = refl

some_place : (c m : ℕ) → place_of c ≡ suc m → (c ≡ m) × (0 < c)
unfolding place_of
some_place zero m e = absurd (omega arith)
some_place (suc c) m e = (omega arith, omega arith)

-- two sides are the same or they are not
same_side : (a b : Bool) → Dec (a ≡ b)
same_side true true = yes refl
same_side true false = no (λ e. true_false refl e)
same_side false true = no (λ e. true_false refl (sym e))
same_side false false = yes refl

-- what follows a place that is known
place_next : (links : List ℕ) (root : ℕ) (turn : ℕ → Bool) (d j : ℕ) → place links root turn d ≡ suc j
    → place links root turn (suc d) ≡ place_of (child links j (turn d))
unfolding place step
place_next links root turn d j e = ap (λ (p : ℕ). step links p (turn d)) e

-- a walk that has ended goes nowhere
place_ended : (links : List ℕ) (root : ℕ) (turn : ℕ → Bool) (d n : ℕ) → place links root turn d ≡ 0 → d ≤ n → place links root turn n ≡ 0
unfolding place step
place_ended links root turn d zero e h = let z : d ≡ 0 = omega arith in rw z at e
place_ended links root turn d (suc n) e h = go (ℕ_discrete d (suc n)) (place_ended links root turn d n e)
  where
    go : Dec (d ≡ suc n) → (d ≤ n → place links root turn n ≡ 0) → place links root turn (suc n) ≡ 0
    go (yes same) before = rw same at e
    go (no other) before = ap (λ (p : ℕ). step links p (turn n)) (before (omega arith))

-- the place before
place_before : (links : List ℕ) (root : ℕ) (turn : ℕ → Bool) (d m : ℕ) → place links root turn (suc d) ≡ suc m
    → (j : ℕ) × (place links root turn d ≡ suc j) × (child links j (turn d) ≡ m) × (0 < m)
unfolding place step
place_before links root turn d m e = go (place links root turn d) refl
  where
    go : (p : ℕ) → place links root turn d ≡ p → (j : ℕ) × (place links root turn d ≡ suc j) × (child links j (turn d) ≡ m) × (0 < m)
    go zero is = absurd (omega (arith, sym e ∙ ap (λ (p : ℕ). step links p (turn d)) is))
    go (suc j) is =
        let c = some_place (child links j (turn d)) m (sym (place_next links root turn d j is) ∙ e) in
        (j, is, c.0, omega (arith, c.0, c.1))

module _ (chosen : ℕ → Bool) (root : ℕ → ℕ) (turn : ℕ → ℕ → Bool) (k : ℕ) (links : List ℕ) (t : Tree chosen root turn k links) where
  -- a walk stays among the entries
  place_inside : (e d : ℕ) → Inside chosen k (place links (root e) (turn e) d)
  unfolding place
  place_inside e zero m is = t.rooted e m is
  place_inside e (suc d) zero is = absurd (omega (arith, (place_before links (root e) (turn e) d 0 is).3))
  place_inside e (suc d) (suc m) is =
      let p = place_before links (root e) (turn e) d (suc m) is in
      let i = place_inside e d p.0 p.1 in
      let l = t.later p.0 m (turn e d) i.0 i.1 p.2 in
      (l.1, l.2)

  -- ---- how a tree grows

  -- the roots and the children that there are stay
  module _
      (root' : ℕ → ℕ) (links' : List ℕ)
      (roots : (e j : ℕ) → root e ≡ suc j → root' e ≡ suc j)
      (children : (j c : ℕ) (side : Bool) → j < k → chosen j ≡ true → child links j side ≡ suc c → child links' j side ≡ suc c)
    where
      place_kept : (e d m : ℕ) → place links (root e) (turn e) d ≡ suc m → place links' (root' e) (turn e) d ≡ suc m
      unfolding place
      place_kept e zero m is = roots e m is
      place_kept e (suc d) zero is = absurd (omega (arith, (place_before links (root e) (turn e) d 0 is).3))
      place_kept e (suc d) (suc m) is =
          let p = place_before links (root e) (turn e) d (suc m) is in
          let i = place_inside e d p.0 p.1 in
          place_next links' (root' e) (turn e) d p.0 (place_kept e d p.0 p.1)
          ∙ ap place_of (children p.0 m (turn e d) i.0 i.1 p.2)
          ∙ place_some (suc m) (omega arith)

      -- one entry more, which is found, and whose children are none
      grown : chosen k ≡ true → (d : ℕ) → place links' (root' k) (turn k) d ≡ suc k → ((e : ℕ) → Inside chosen (suc k) (root' e))
          → ((j c : ℕ) (side : Bool) → j < suc k → chosen j ≡ true → child links' j side ≡ suc c → (j < suc c) × (suc c < suc k) × (chosen (suc c) ≡ true))
          → Tree chosen root' turn (k + 1) links'
      grown own d is rooted later = rw (add-one k) (record {
        found = λ e h c. find e h c (ℕ_discrete e k);
        rooted = rooted;
        later = later;
      })
        where
          find : (e : ℕ) → e < suc k → chosen e ≡ true → Dec (e ≡ k) → (d : ℕ) × (place links' (root' e) (turn e) d ≡ suc e)
          find e h c (yes same) = (d, rw same is)
          find e h c (no other) = let f = t.found e (omega arith) c in (f.0, place_kept e f.0 e f.1)

  -- an index that is no entry is passed
  pub tree_skip : chosen k ≡ false → Tree chosen root turn (k + 1) links
  tree_skip no-entry = rw (add-one k) (record {
    found = λ e h c. t.found e (below e h c (ℕ_discrete e k)) c;
    rooted = λ e j is. let i = t.rooted e j is in (omega (arith, i.0), i.1);
    later = λ j c side h own is. let l = t.later j c side (below j h own (ℕ_discrete j k)) own is in (l.0, omega (arith, l.1), l.2);
  })
    where
      below : (e : ℕ) → e < suc k → chosen e ≡ true → Dec (e ≡ k) → e < k
      below e h c (yes same) = absurd (true_false c (ap chosen same ∙ no-entry))
      below e h c (no other) = omega arith

  -- an entry becomes the child where its walk ends
  pub tree_hung : chosen k ≡ true → (d j : ℕ) → place links (root k) (turn k) d ≡ suc j → child links j (turn k d) ≡ 0
      → (links' : List ℕ) → Hung j (turn k d) k links links' → Tree chosen root turn (k + 1) links'
  tree_hung own d j is none links' hung =
      grown root links' (λ e m same. same) kept own (suc d)
      (place_next links' (root k) (turn k) d j (place_kept root links' (λ e m same. same) kept k d j is)
      ∙ ap place_of hung.own ∙ place_some k (omega (arith, at.0)))
      (λ e m same. let i = t.rooted e m same in (omega (arith, i.0), i.1))
      later
    where
      at : (j < k) × (chosen j ≡ true)
      at = place_inside k d j is

      kept : (i c : ℕ) (side : Bool) → i < k → chosen i ≡ true → child links i side ≡ suc c → child links' i side ≡ suc c
      kept i c side h e there =
          hung.other i side (λ same. omega arith)
          (λ same. let z : child links i side ≡ 0 = ap (λ (x : ℕ). child links x side) same.0 ∙ ap (child links j) same.1 ∙ none in omega (arith, z, there))
          ∙ there

      later : (i c : ℕ) (side : Bool) → i < suc k → chosen i ≡ true → child links' i side ≡ suc c → (i < suc c) × (suc c < suc k) × (chosen (suc c) ≡ true)
      later i c side h e there = go (ℕ_discrete i k) (ℕ_discrete i j) (same_side side (turn k d))
        where
          old : child links' i side ≡ child links i side → (i ≡ k → ⊥) → (i < suc c) × (suc c < suc k) × (chosen (suc c) ≡ true)
          old is other = let l = t.later i c side (omega arith) e (sym is ∙ there) in (l.0, omega (arith, l.1), l.2)

          go : Dec (i ≡ k) → Dec (i ≡ j) → Dec (side ≡ turn k d) → (i < suc c) × (suc c < suc k) × (chosen (suc c) ≡ true)
          go (yes same) p q = absurd (omega (arith, hung.none side, sym (ap (λ (x : ℕ). child links' x side) same) ∙ there))
          go (no other) (yes p) (yes q) =
              let new : suc c ≡ k = sym there ∙ ap (λ (x : ℕ). child links' x side) p ∙ ap (child links' j) q ∙ hung.own in
              (omega (arith, at.0), omega arith, ap chosen new ∙ own)
          go (no other) (yes p) (no q) = old (hung.other i side other (λ both. q both.1)) other
          go (no other) (no p) q = old (hung.other i side other (λ both. p both.0)) other

  -- or the root, where there was none
  pub tree_rooted : chosen k ≡ true → (root' : ℕ → ℕ) → root' k ≡ suc k → ((e : ℕ) → (root' e ≡ root e) ⊎ ((root e ≡ 0) × (root' e ≡ suc k)))
      → (links' : List ℕ) → ((s : Bool) → child links' k s ≡ 0) → ((i : ℕ) (s : Bool) → (i ≡ k → ⊥) → child links' i s ≡ child links i s)
      → Tree chosen root' turn (k + 1) links'
  unfolding place
  tree_rooted own root' is roots links' none other =
      grown root' links' (λ e j there. kept e j there (roots e)) (λ j c side h e there. other j side (λ same. omega arith) ∙ there) own 0 is
      (λ e j there. rooted e j there (roots e)) (λ j c side h e there. later j c side h e there (ℕ_discrete j k))
    where
      kept : (e j : ℕ) → root e ≡ suc j → (root' e ≡ root e) ⊎ ((root e ≡ 0) × (root' e ≡ suc k)) → root' e ≡ suc j
      kept e j there (inl same) = same ∙ there
      kept e j there (inr new) = absurd (omega (arith, there, new.0))

      rooted : (e j : ℕ) → root' e ≡ suc j → (root' e ≡ root e) ⊎ ((root e ≡ 0) × (root' e ≡ suc k)) → (j < suc k) × (chosen j ≡ true)
      rooted e j there (inl same) = let i = t.rooted e j (sym same ∙ there) in (omega (arith, i.0), i.1)
      rooted e j there (inr new) = let same : j ≡ k = omega (arith, there, new.1) in (omega arith, ap chosen same ∙ own)

      later : (j c : ℕ) (side : Bool) → j < suc k → chosen j ≡ true → child links' j side ≡ suc c → Dec (j ≡ k) → (j < suc c) × (suc c < suc k) × (chosen (suc c) ≡ true)
      later j c side h e there (yes same) = absurd (omega (arith, none side, sym (ap (λ (x : ℕ). child links' x side) same) ∙ there))
      later j c side h e there (no p) =
          let l = t.later j c side (omega arith) e (sym (other j side p) ∙ there) in
          (l.0, omega (arith, l.1), l.2)

-- ---- the walk of an entry

-- the walk of entry x, after d turns, is at a place: it has passed only entries that fail the test
pub record Walking (root : ℕ → ℕ) (turn : ℕ → ℕ → Bool) (test : ℕ → Bool) (x : ℕ) (links : List ℕ) (d at : ℕ) : Type 0 where
  pub here : place links (root x) (turn x) d ≡ at
  pub passed : (n j : ℕ) → n < d → place links (root x) (turn x) n ≡ suc j → test j ≡ false

module _ (root : ℕ → ℕ) (turn : ℕ → ℕ → Bool) (test : ℕ → Bool) (x : ℕ) (links : List ℕ) where
  -- where it has ended before the first turn there is no root
  pub root_none : Walking root turn test x links 0 0 → root x ≡ 0
  unfolding place
  root_none w = w.here

  -- it starts at the root
  pub walking_start : (at : ℕ) → at ≡ root x → Walking root turn test x links 0 at
  unfolding place
  walking_start at is = record { here = sym is; passed = λ n j h. absurd (omega arith) }

  -- an entry that fails the test is left, to its child on the side of the turn
  walking_next : (d j : ℕ) → Walking root turn test x links d (suc j) → test j ≡ false
      → Walking root turn test x links (d + 1) (place_of (child links j (turn x d)))
  walking_next d j w e = rw (add-one d) (record {
    here = place_next links (root x) (turn x) d j w.here;
    passed = λ n i h is. go n i h is (ℕ_discrete n d);
  })
    where
      go : (n i : ℕ) → n < suc d → place links (root x) (turn x) n ≡ suc i → Dec (n ≡ d) → test i ≡ false
      go n i h is (yes same) =
          let one : i ≡ j = omega (arith, sym is ∙ ap (place links (root x) (turn x)) same ∙ w.here) in
          ap test one ∙ e
      go n i h is (no other) = w.passed n i (omega arith) is

  -- by what the code reads: the side, and the child in links that are as they were
  module _
      (d j : ℕ) (w : Walking root turn test x links d (suc j)) (e : test j ≡ false) (side : Bool) (turned : side ≡ turn x d) (old : List ℕ) (kept : old ≡ links)
    where
      on : Walking root turn test x links (d + 1) (place_of (child old j side))
      on = rw (turned, kept) (walking_next d j w e)

      -- it goes on to the child
      pub walking_on : (c : ℕ) → c ≡ child old j side → (c ≡ 0 → ⊥) → Walking root turn test x links (d + 1) (c + 1)
      walking_on c is some = subst (Walking root turn test x links (d + 1)) (ap place_of (sym is) ∙ there c some) on
        where
          there : (c : ℕ) → (c ≡ 0 → ⊥) → place_of c ≡ c + 1
          there zero h = absurd (h refl)
          there (suc c) h = place_some (suc c) (omega arith) ∙ sym (add-one (suc c))

      -- or ends
      pub walking_last : child old j side ≡ 0 → Walking root turn test x links (d + 1) 0
      walking_last is = subst (Walking root turn test x links (d + 1)) (ap place_of is ∙ place_zero) on

  module _ (chosen : ℕ → Bool) (k : ℕ) (t : Tree chosen root turn k links) where
    -- a child is a later entry
    pub walking_rises : (d j : ℕ) → Walking root turn test x links d (suc j) → (old : List ℕ) → old ≡ links → (side : Bool) (c : ℕ)
        → c ≡ child old j side → (c ≡ 0 → ⊥) → (j < c) × (c < k)
    walking_rises d j w old kept side zero is some = absurd (some refl)
    walking_rises d j w old kept side (suc c) is some =
        let i = place_inside chosen root turn k links t x d j w.here in
        let l = t.later j c side i.0 i.1 (rw (← kept) (sym is)) in
        (l.0, l.1)

    -- where it is at an entry, that is one of the tree
    pub walking_inside : (d j : ℕ) → Walking root turn test x links d (suc j) → (j < k) × (chosen j ≡ true)
    walking_inside d j w = place_inside chosen root turn k links t x d j w.here

    -- at its end no entry passes the test, if those that pass it have the root and the turns of x
    pub walking_end : (d : ℕ) → Walking root turn test x links d 0
        → ((e : ℕ) → e < k → test e ≡ true → (chosen e ≡ true) × (root e ≡ root x) × (turn e ≡ turn x)) → (e : ℕ) → e < k → test e ≡ false
    walking_end d w alike e h = answers (test e) (λ holds. some holds (alike e h holds)) (λ fails. fails)
      where
        some : test e ≡ true → (chosen e ≡ true) × (root e ≡ root x) × (turn e ≡ turn x) → test e ≡ false
        some holds (own, same, turns) = go (t.found e h own)
          where
            go : (n : ℕ) × (place links (root e) (turn e) n ≡ suc e) → test e ≡ false
            go (n, is) = at (dec_lt n d)
              where
                here : place links (root x) (turn x) n ≡ suc e
                here = ap (λ (r : ℕ). place links r (turn x) n) (sym same) ∙ ap (λ (b : ℕ → Bool). place links (root e) b n) (sym turns) ∙ is

                at : Dec (n < d) → test e ≡ false
                at (yes l) = w.passed n e l here
                at (no l) = absurd (omega (arith, sym here ∙ place_ended links (root x) (turn x) d n w.here (omega arith)))
