-- The walk of a name through the tree of its key, whichever indices are entries.
-- Assumes nothing.
use mathlib.Core.Path.{◌≡◌, refl, ap, subst, ◌∙◌}
use mathlib.Core.Bool.{Bool, true, false}
use mathlib.Core.Logic.{◌⊎◌, inl, inr}
use mathlib.Core.List.{List}
use Prim.Native.Nat.{ℕ, suc, ◌+◌, ◌≤◌, ◌<◌}
use native.Mathlib.Decide.{ℕ_discrete}
use native.Mathlib.Numerals.{add-one}
use native.Mathlib.Omega.{arith}
use lib.ListN.{length, get_or, set, length-set, replicate, length-replicate, get_or-replicate}
use lib.Seq.{get_or-set_same, get_or-set_other}
use Rattle.index.proofs.Search.{true_false}
use Rattle.lexicon.specs.Word.{same}
use Rattle.lexicon.proofs.Words.{same_equal}
use Rattle.bit_tree.specs.Tree.{child, place, Tree, Hung}
use Rattle.bit_tree.specs.Bit.{name_bit}
use Rattle.bit_tree.proofs.Word.{half, half_none}
use Rattle.bit_tree.proofs.Growth.{tree_skip, tree_hung, tree_rooted, Walking, root_none, walking_start, walking_on, walking_last, walking_rises, walking_inside, walking_end}
use Rattle.name_tree.specs.Key.{key_count, name_key}
use Rattle.name_tree.specs.Tree.{part_at, Placed, root_at, turns_at, NameTree, has_name_of, Admitted}
use Rattle.name_tree.proofs.Both.{both, both_first, both_second, not_second}
use Rattle.name_tree.proofs.Keyed.{key_few}

module _ (text starts ends : List ℕ) where
  -- before the first index there are no names
  pub names_none : (chosen : ℕ → Bool) (links : List ℕ) → NameTree chosen text starts ends 0 (replicate key_count 0) links
  names_none chosen links = record {
    heads_long = length-replicate {A = ℕ} key_count 0;
    tree = record {
      found = λ e h. absurd (omega arith);
      rooted = λ e j is. absurd (omega (arith, is, get_or-replicate {A = ℕ} key_count (name_key (part_at text starts ends e)) 0 0 (key_few (part_at text starts ends e))));
      later = λ j c side h. absurd (omega arith);
    };
    placed = λ j h. absurd (omega arith);
    room = omega arith;
  }

  -- an index that is no entry is passed
  pub names_skip : (chosen : ℕ → Bool) (k : ℕ) (heads links : List ℕ) → NameTree chosen text starts ends k heads links → k < length links → chosen k ≡ false
      → NameTree chosen text starts ends (k + 1) heads links
  names_skip chosen k heads links n room e = record {
    heads_long = n.heads_long;
    tree = tree_skip chosen _ _ k links n.tree e;
    placed = λ j h own. n.placed j (below j h own (ℕ_discrete j k)) own;
    room = omega arith;
  }
    where
      below : (j : ℕ) → j < k + 1 → chosen j ≡ true → Dec (j ≡ k) → j < k
      below j h own (yes same) = absurd (true_false own (ap chosen same ∙ e))
      below j h own (no other) = omega arith

  module _ (k : ℕ) (heads links : List ℕ) where
    -- the walk of entry k, after d turns, is at a place
    abbrev pub Looking : ℕ → ℕ → Type 0
    Looking d at = (chosen : ℕ → Bool) → NameTree chosen text starts ends k heads links
        → Walking (root_at text starts ends heads) (turns_at text starts ends) (has_name_of chosen text starts ends k) k links d at

    pub looking_start : (at : ℕ) → at ≡ root_at text starts ends heads k → Looking 0 at
    looking_start at is chosen n = walking_start _ _ _ k links at is

    -- an entry that has the name of entry k has its root and its turns
    alike : (chosen : ℕ → Bool) (e : ℕ) → e < k → has_name_of chosen text starts ends k e ≡ true
        → (chosen e ≡ true) × (root_at text starts ends heads e ≡ root_at text starts ends heads k) × (turns_at text starts ends e ≡ turns_at text starts ends k)
    alike chosen e h holds =
        let name = same_equal (part_at text starts ends e) (part_at text starts ends k) (both_second (chosen e) _ holds) in
        (both_first (chosen e) _ holds, ap (λ (s : List ℕ). get_or heads (name_key s) 0) name, ap name_bit name)

    -- a walk that has ended found none
    ended : (d : ℕ) → Looking d 0 → (chosen : ℕ → Bool) → NameTree chosen text starts ends k heads links
        → (j : ℕ) → j < k → has_name_of chosen text starts ends k j ≡ false
    ended d w chosen n = walking_end _ _ _ k links chosen k n.tree d (w chosen n) (alike chosen)

    -- entry k is in the trees, by what they are then
    admitted : (chosen : ℕ → Bool) → NameTree chosen text starts ends k heads links → Placed text starts ends k → k < length links
        → (heads' links' : List ℕ) → length heads' ≡ length heads → length links' ≡ length links
        → (chosen k ≡ true → Tree chosen (root_at text starts ends heads') (turns_at text starts ends) (k + 1) links')
        → ((j : ℕ) → j < k → has_name_of chosen text starts ends k j ≡ false) → Admitted chosen text starts ends k heads' links' 0
    admitted chosen n own room heads' links' p q tree none = record {
      again = λ j is. absurd (omega arith);
      fresh = λ is. none;
      grown = λ is e. record {
        heads_long = p ∙ n.heads_long;
        tree = tree e;
        placed = λ j h c. place j h c (ℕ_discrete j k);
        room = omega arith;
      };
    }
      where
        place : (j : ℕ) → j < k + 1 → chosen j ≡ true → Dec (j ≡ k) → Placed text starts ends j
        place j h c (yes same) = rw same own
        place j h c (no other) = n.placed j (omega arith) c

    -- where its key has no tree, it is the root
    pub looking_empty : (d at : ℕ) → Looking d at → at ≤ 0 → (at ≡ 0 → d ≡ 0) → Placed text starts ends k → k < length links
        → (key : ℕ) → key ≡ name_key (part_at text starts ends k) → (old : List ℕ) → old ≡ links
        → (chosen : ℕ → Bool) → NameTree chosen text starts ends k heads links → Admitted chosen text starts ends k (set heads key (k + 1)) (set old k 0) 0
    looking_empty d at w end first own room key is old kept chosen n =
        rw kept (admitted chosen n own room _ _ (length-set heads key (k + 1)) (length-set links k 0)
        (λ e. tree_rooted chosen _ _ k links n.tree e _ (rw (← is, ← add-one k) there) (λ i. roots i (ℕ_discrete (name_key (part_at text starts ends i)) key)) (set links k 0)
        (λ s. ap (λ (word : ℕ). half word s) (get_or-set_same links k 0 0 room) ∙ half_none s)
        (λ i s apart. ap (λ (word : ℕ). half word s) (get_or-set_other links k i 0 0 apart)))
        (ended 0 start chosen n))
      where
        ends_here : at ≡ 0
        ends_here = omega arith

        start : Looking 0 0
        start = subst (λ (m : ℕ). Looking m 0) (first ends_here) (subst (Looking d) ends_here w)

        there : get_or (set heads key (k + 1)) key 0 ≡ k + 1
        there = get_or-set_same heads key (k + 1) 0 (omega (arith, n.heads_long, is, key_few (part_at text starts ends k)))

        none : get_or heads key 0 ≡ 0
        none = ap (λ (h : ℕ). get_or heads h 0) is ∙ root_none _ _ _ k links (start chosen n)

        roots : (i : ℕ) → Dec (name_key (part_at text starts ends i) ≡ key)
            → (get_or (set heads key (k + 1)) (name_key (part_at text starts ends i)) 0 ≡ root_at text starts ends heads i)
            ⊎ ((root_at text starts ends heads i ≡ 0) × (get_or (set heads key (k + 1)) (name_key (part_at text starts ends i)) 0 ≡ suc k))
        roots i (yes same) = inr (ap (λ (h : ℕ). get_or heads h 0) same ∙ none, rw (same, ← add-one k) there)
        roots i (no apart) = inl (get_or-set_other heads key (name_key (part_at text starts ends i)) (k + 1) 0 apart)

    module _ (d j : ℕ) (w : Looking d (suc j)) where
      module _ (chosen : ℕ → Bool) (n : NameTree chosen text starts ends k heads links) where
        pub entry_inside : (j < k) × (chosen j ≡ true)
        entry_inside = walking_inside _ _ _ k links chosen k n.tree d j (w chosen n)

        -- the entry's name lies in the text
        pub entry_placed : Placed text starts ends j
        entry_placed = n.placed j entry_inside.0 entry_inside.1

        -- a child is a later entry
        pub looking_rises : (old : List ℕ) → old ≡ links → (side : Bool) (c : ℕ) → c ≡ child old j side → (c ≡ 0 → ⊥) → (j < c) × (c < k)
        looking_rises = walking_rises _ _ _ k links chosen k n.tree d j (w chosen n)

      -- an entry that is spelled alike has the name of entry k
      pub looking_hit : same (part_at text starts ends j) (part_at text starts ends k) ≡ true → (at : ℕ) → at ≡ suc j → (old : List ℕ)
          → (chosen : ℕ → Bool) → NameTree chosen text starts ends k heads links → Admitted chosen text starts ends k heads old at
      looking_hit e at here old chosen n = record {
        again = λ i is. let one : i ≡ j = omega arith in
            (omega (arith, (entry_inside chosen n).0), rw one (both (chosen j) _ (entry_inside chosen n).1 e));
        fresh = λ is. absurd (omega arith);
        grown = λ is. absurd (omega arith);
      }

      -- from one that is not, the walk goes on
      module _
          (other : same (part_at text starts ends j) (part_at text starts ends k) ≡ false)
          (side : Bool) (turned : side ≡ name_bit (part_at text starts ends k) d) (old : List ℕ) (kept : old ≡ links)
        where
          -- to the child
          pub looking_next : (c : ℕ) → c ≡ child old j side → (c ≡ 0 → ⊥) → Looking (d + 1) (c + 1)
          looking_next c is some chosen n =
              walking_on _ _ _ k links d j (w chosen n) (not_second (chosen j) _ other) side turned old kept c is some

          -- or to its end, where the entry becomes the child
          pub looking_hung : child old j side ≡ 0 → Placed text starts ends k → k < length links → (links' : List ℕ) → length links' ≡ length old
              → Hung j side k old links' → (chosen : ℕ → Bool) → NameTree chosen text starts ends k heads links → Admitted chosen text starts ends k heads links' 0
          looking_hung is own room links' long hung chosen n =
              admitted chosen n own room heads links' refl (long ∙ ap length kept)
              (λ e. tree_hung chosen _ _ k links n.tree e d j (w chosen n).here (rw (← turned, ← kept) is) links' (rw (← turned, ← kept) hung))
              (ended (d + 1) (λ c m. walking_last _ _ _ k links d j (w c m) (not_second (c j) _ other) side turned old kept is) chosen n)
