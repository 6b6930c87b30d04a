-- The items of an enumeration in trees: what is alike has the same turns, and the walk of a token, which passes no item that is alike.
-- Assumes nothing.
use mathlib.Core.Path.{◌≡◌, refl, sym, ap, subst, ◌∙◌}
use mathlib.Core.Bool.{Bool, true, false, cond, ◌&&◌, ◌||◌, or-true}
use mathlib.Core.Logic.{inr}
use mathlib.Core.List.{List}
use Prim.Native.Nat.{ℕ, zero, suc, ◌+◌, ◌-◌, ◌≤◌, ◌<◌}
use native.Mathlib.Decide.{ℕ_discrete}
use native.Mathlib.Numerals.{add-one}
use native.Mathlib.Omega.{arith}
use borrow.Author.Tests.{eqb-true, ne_eqb, le-ltb}
use lib.Dec.{eqb}
use lib.IntN.{pos, neg_ℤ}
use lib.ListN.{length, get_or}
use Rattle.index.specs.First.{first, any}
use Rattle.index.proofs.Search.{true_false, first_hit, first_miss, first_none, any_at, none_any}
use Rattle.lexicon.specs.Word.{same}
use Rattle.lexicon.proofs.Words.{same_equal}
use Rattle.terminal.specs.Terminal.{negative}
use Rattle.bit_tree.specs.Bit.{bit, name_bit}
use Rattle.bit_tree.specs.Tree.{child, Tree, Hung}
use Rattle.bit_tree.proofs.Word.{half, half_none}
use Rattle.bit_tree.proofs.Growth.{tree_skip, tree_hung, tree_rooted, Walking, root_none, walking_start, walking_on, walking_last, walking_rises, walking_inside, walking_end}
use Rattle.definition.specs.Landmark.{class_at}
use Rattle.definition.specs.Members.{is_name}
use Rattle.sub_type.specs.Number.{same_number, is_outside}
use Rattle.sub_type.specs.declared.Limits.{Limits}
use Rattle.enumeration.specs.Item.{Spelling, spelled, item_number, has_label, has_number, label_again, number_misfit}
use Rattle.enumeration.specs.Tree.{is_entry, root_of, label_turns, number_turns, Ready, Answered, Clear}

-- both of two tests hold
pub both : (a b : Bool) → (a && b) ≡ true → (a ≡ true) × (b ≡ true)
both true true e = (refl, refl)
both true false e = absurd (true_false refl (sym e))
both false b e = absurd (true_false refl (sym e))

-- ---- what is alike

-- tokens that a test finds alike are labels, and have the same turns
abbrev pub Alike : List ℕ → (ℕ → ℕ → Bool) → (ℕ → ℕ → Bool) → Type 0
Alike cs turns has = (i j : ℕ) → has i j ≡ true → (is_name cs j ≡ true) × (turns j ≡ turns i)

pub label_alike : (x : Spelling) (cs : List ℕ) → Alike cs (label_turns x) (has_label x cs)
label_alike x cs i j e =
    let p = both (is_name cs j) (same (spelled x j) (spelled x i)) e in
    (p.0, ap name_bit (same_equal _ _ p.1))

-- numbers that are the same have the same magnitude
signed_same : (a b : Bool) (m n : ℕ) → same_number (cond a (neg_ℤ (pos m)) (pos m)) (cond b (neg_ℤ (pos n)) (pos n)) ≡ true → m ≡ n
signed_same true true zero zero e = refl
signed_same true true zero (suc n) e = absurd (true_false refl (sym e))
signed_same true true (suc m) zero e = absurd (true_false refl (sym e))
signed_same true true (suc m) (suc n) e = ap suc (eqb-true m n e)
signed_same true false zero n e = eqb-true 0 n e
signed_same true false (suc m) n e = absurd (true_false refl (sym e))
signed_same false true m zero e = eqb-true m 0 e
signed_same false true m (suc n) e = absurd (true_false refl (sym e))
signed_same false false m n e = eqb-true m n e

pub number_alike : (cs vs : List ℕ) → Alike cs (number_turns vs) (has_number cs vs)
number_alike cs vs i j e =
    let p = both (is_name cs j) (same_number (item_number cs vs j) (item_number cs vs i)) e in
    let m = signed_same (eqb (class_at cs (j + 2)) negative) (eqb (class_at cs (i + 2)) negative) (get_or vs (j + 2) 0) (get_or vs (i + 2) 0) p.1 in
    (p.0, ap bit m)

-- ---- the root

root_some : (k : ℕ) → 0 < k → root_of k ≡ 1
root_some k h = simp (le-ltb k 1 h)

-- ---- the walk of a token

-- the walk of a token, after d turns, is at a place
abbrev Seeking : (ℕ → ℕ → Bool) → (ℕ → ℕ → Bool) → ℕ → ℕ → List ℕ → ℕ → ℕ → Type 0
Seeking turns has base token =
    Walking (λ (j : ℕ). root_of (token - base)) (λ (j : ℕ). turns (base + j)) (λ (j : ℕ). has token (base + j)) (token - base)

-- the walk is at a place, and the links are as they were
pub record Placing (turns has : ℕ → ℕ → Bool) (base token : ℕ) (old links : List ℕ) (d at : ℕ) : Type 0 where
  pub kept : links ≡ old
  pub rising : d ≤ at
  pub first : at ≡ 0 → d ≡ 0
  pub walk : Seeking turns has base token old d at

-- it starts at the root
pub placing_start : (turns has : ℕ → ℕ → Bool) (base token : ℕ) (links : List ℕ) (at : ℕ) → at ≡ root_of (token - base)
    → Placing turns has base token links links 0 at
placing_start turns has base token links at is = record {
  kept = refl;
  rising = omega arith;
  first = λ e. refl;
  walk = walking_start _ _ _ (token - base) links at is;
}

-- ---- a tree that is ready for a token, and then for the next

module _ (cs : List ℕ) (turns : ℕ → ℕ → Bool) (base : ℕ) where
  -- before the first token it is empty
  pub ready_start : (to : ℕ) (links : List ℕ) → Clear base to links → Ready cs turns base base links
  ready_start to links c = record {
    tree = let none : base - base ≡ 0 = omega arith in rw none (record {
      found = λ e h. absurd (omega arith);
      rooted = λ e j is. absurd (omega arith);
      later = λ j c side h. absurd (omega arith);
    });
    after = omega arith;
    fresh = λ e. c.fresh;
  }

  module _ (token : ℕ) (links : List ℕ) (r : Ready cs turns base token links) where
    -- the tree with one token more, where the root is there
    ready_more : base < token → (links' : List ℕ)
        → Tree (is_entry cs base) (λ (j : ℕ). root_of (token - base)) (λ (j : ℕ). turns (base + j)) (token - base + 1) links' → Ready cs turns base (token + 1) links'
    ready_more h links' tree = record {
      tree =
          let next : token + 1 - base ≡ token - base + 1 = omega arith in
          let same : root_of (token - base) ≡ root_of (token - base + 1) = root_some (token - base) (omega arith) ∙ sym (root_some (token - base + 1) (omega arith)) in
          rw next (subst (λ (o : ℕ). Tree (is_entry cs base) (λ (j : ℕ). o) (λ (j : ℕ). turns (base + j)) (token - base + 1) links') same tree);
      after = omega arith;
      fresh = λ e. absurd (omega arith);
    }

    -- the first token is the root
    pub ready_first : token ≡ base → Ready cs turns base (token + 1) links
    ready_first first = record {
      tree =
          let none : token - base ≡ 0 = omega arith in
          let next : token + 1 - base ≡ 0 + 1 = omega arith in
          rw next (tree_rooted (is_entry cs base) (λ (j : ℕ). 0) (λ (j : ℕ). turns (base + j)) 0 links (rw none at r.tree) refl (λ (j : ℕ). 1) refl (λ e. inr (refl, refl)) links
          (λ s. ap (λ (word : ℕ). half word s) (r.fresh first) ∙ half_none s) (λ i s apart. refl));
      after = omega arith;
      fresh = λ e. absurd (omega arith);
    }

    -- a token that is no label is left out
    pub ready_skip : is_name cs token ≡ false → Ready cs turns base (token + 1) links
    ready_skip e = go (ℕ_discrete token base)
      where
        go : Dec (token ≡ base) → Ready cs turns base (token + 1) links
        go (yes first) = ready_first first
        go (no other) =
            let k : base + (token - base) ≡ token = omega (arith, r.after) in
            ready_more (omega (arith, r.after)) links
            (tree_skip _ _ _ _ links r.tree (ap (λ (b : Bool). b || is_name cs (base + (token - base))) (ne_eqb (token - base) 0 (λ z. other (omega (arith, r.after)))) ∙ ap (is_name cs) k ∙ e))

    -- ---- the walk of a token

    module _ (has : ℕ → ℕ → Bool) (alike : Alike cs turns has) where
      here : base + (token - base) ≡ token
      here = omega (arith, r.after)

      -- a label is an entry
      entry : (j : ℕ) → is_name cs (base + j) ≡ true → is_entry cs base j ≡ true
      entry j e = ap (λ (b : Bool). eqb j 0 || b) e ∙ or-true (eqb j 0)

      -- at its end no token before is alike
      none : (d : ℕ) → Seeking turns has base token links d 0
          → false ≡ any (has token) base token
      none d w = sym (none_any (has token) base token r.after (λ j l h. fails j l h))
        where
          fails : (j : ℕ) → base ≤ j → j < token → has token j ≡ false
          fails j l h =
              let same : base + (j - base) ≡ j = omega arith in
              ap (has token) (sym same)
              ∙ walking_end _ _ _ (token - base) links (is_entry cs base) (token - base) r.tree d w
              (λ e m holds. let a = alike token (base + e) holds in (entry e a.0, refl, a.1 ∙ ap turns (sym here)))
              (j - base) (omega arith)

      module _ (now : List ℕ) (d at : ℕ) (p : Placing turns has base token links now d at) where
        -- where there is no root it is the first token
        pub placing_empty : at ≤ 0 → Answered (any (has token) base token) cs turns base token now false
        placing_empty end = record {
          is = none 0 ended;
          ready = λ e. rw p.kept (ready_first (is_first (ℕ_discrete token base)));
        }
          where
            ends : at ≡ 0
            ends = omega arith

            ended : Seeking turns has base token links 0 0
            ended =
                subst (λ (m : ℕ). Seeking turns has base token links m 0) (p.first ends)
                (subst (Seeking turns has base token links d) ends p.walk)

            is_first : Dec (token ≡ base) → token ≡ base
            is_first (yes first) = first
            is_first (no other) =
                let root : root_of (token - base) ≡ 0 = root_none _ _ _ (token - base) links ended in
                absurd (omega (arith, root, root_some (token - base) (omega (arith, r.after))))

        module _ (some : 0 < at) where
          walk_at : Seeking turns has base token links d (suc (at - 1))
          walk_at = subst (Seeking turns has base token links d) (omega arith) p.walk

          -- it is at a token before
          pub placing_inside : at - 1 < token - base
          placing_inside = (walking_inside _ _ _ (token - base) links (is_entry cs base) (token - base) r.tree d (at - 1) walk_at).0

          -- and goes on to later ones
          pub placing_rises : (side : Bool) (c : ℕ) → c ≡ child now (at - 1) side → (c ≡ 0 → ⊥) → (at - 1 < c) × (c < token - base)
          placing_rises = walking_rises _ _ _ (token - base) links (is_entry cs base) (token - base) r.tree d (at - 1) walk_at now p.kept

          -- one that is alike is found
          pub placing_hit : has token (base + (at - 1)) ≡ true → Answered (any (has token) base token) cs turns base token now true
          placing_hit e = record {
            is = sym (any_at (has token) base token (base + (at - 1)) (omega arith) (omega (arith, placing_inside)) e);
            ready = λ z. absurd (true_false refl z);
          }

          -- from one that is not, it goes on
          module _ (other : has token (base + (at - 1)) ≡ false) (side : Bool) (turned : side ≡ turns token d) where
            own_turn : side ≡ turns (base + (token - base)) d
            own_turn = turned ∙ ap (λ (i : ℕ). turns i d) (sym here)

            -- to the child
            pub placing_next : (c : ℕ) → c ≡ child now (at - 1) side → (c ≡ 0 → ⊥) → Placing turns has base token links now (d + 1) (c + 1)
            placing_next c is more = record {
              kept = p.kept;
              rising = omega (arith, p.rising, (placing_rises side c is more).0);
              first = λ e. absurd (omega arith);
              walk = walking_on _ _ _ (token - base) links d (at - 1) walk_at other side own_turn now p.kept c is more;
            }

            -- or to its end, where the token becomes the child, if it is a label
            pub placing_hung : child now (at - 1) side ≡ 0 → is_name cs token ≡ true → (links' : List ℕ) → Hung (at - 1) side (token - base) now links'
                → Answered (any (has token) base token) cs turns base token links' false
            placing_hung is label links' hung = record {
              is = none (d + 1) (walking_last _ _ _ (token - base) links d (at - 1) walk_at other side own_turn now p.kept is);
              ready =
                  λ z. ready_more (omega (arith, placing_inside)) links'
                  (tree_hung (is_entry cs base) _ _ (token - base) links r.tree (entry (token - base) (ap (is_name cs) here ∙ label)) d (at - 1) walk_at.here
                  (rw (← own_turn, ← p.kept) is) links' (rw (← own_turn, ← p.kept) hung));
            }

-- ---- the search through a span

-- the search is at a token: none before it is there again, and the tree is ready for it
pub record Searching (again : ℕ → Bool) (cs : List ℕ) (turns : ℕ → ℕ → Bool) (base to : ℕ) (old links : List ℕ) (token : ℕ) : Type 0 where
  pub left : first again token to ≡ first again base to
  pub ready : Ready cs turns base token links
  pub long : length links ≡ length old

module _ (again : ℕ → Bool) (cs : List ℕ) (turns : ℕ → ℕ → Bool) (base to : ℕ) (old : List ℕ) where
  pub searching_start : Clear base to old → Searching again cs turns base to old old base
  searching_start c = record { left = refl; ready = ready_start cs turns base to old c; long = refl }

  module _ (links : List ℕ) (token : ℕ) (s : Searching again cs turns base to old links token) where
    -- past the last token there is none
    pub searching_end : to ≤ token → token ≡ first again base to
    searching_end h = sym (first_none again token to h) ∙ s.left

    module _ (h : token < to) where
      -- the tree has room for the token
      pub searching_room : Clear base to old → token - base < length links
      searching_room c = omega (arith, c.room, s.long, s.ready.after)

      module _ (new : List ℕ) (r : Bool) (a : Answered (again token) cs turns base token new r) where
        -- one that is there again is the first
        pub searching_hit : r ≡ true → token ≡ first again base to
        searching_hit e = sym (first_hit again token to h (sym a.is ∙ e)) ∙ s.left

        -- and one that is not is passed
        pub searching_next : r ≡ false → length new ≡ length links → Searching again cs turns base to old new (token + 1)
        searching_next e long = record {
          left = rw (add-one token) (sym (first_miss again token to h (sym a.is ∙ e)) ∙ s.left);
          ready = a.ready e;
          long = long ∙ s.long;
        }

-- ---- what the trees say of a token

module _ (x : Spelling) (cs : List ℕ) (base token : ℕ) where
  pub label_found : (b : Bool) → is_name cs token ≡ true → b ≡ any (has_label x cs token) base token → b ≡ label_again x cs base token
  unfolding label_again
  label_found b name is = is ∙ sym (ap (λ (n : Bool). n && any (has_label x cs token) base token) name)

  pub label_none : is_name cs token ≡ false → false ≡ label_again x cs base token
  unfolding label_again
  label_none name = sym (ap (λ (n : Bool). n && any (has_label x cs token) base token) name)

module _ (cs vs : List ℕ) (limits : Limits) (base token : ℕ) where
  -- whether its number is outside the limits or found before
  misfits : Bool → Bool → Bool
  misfits name out = name && (out || any (has_number cs vs token) base token)

  pub number_outside : is_name cs token ≡ true → is_outside limits (item_number cs vs token) ≡ true → true ≡ number_misfit cs vs limits base token
  unfolding number_misfit misfits
  number_outside name out =
      sym (ap (λ (n : Bool). misfits n (is_outside limits (item_number cs vs token))) name ∙ ap (misfits true) out)

  pub number_found : (b : Bool) → is_name cs token ≡ true → is_outside limits (item_number cs vs token) ≡ false
      → b ≡ any (has_number cs vs token) base token → b ≡ number_misfit cs vs limits base token
  unfolding number_misfit misfits
  number_found b name inside is =
      is ∙ sym (ap (λ (n : Bool). misfits n (is_outside limits (item_number cs vs token))) name ∙ ap (misfits true) inside)

  pub number_none : is_name cs token ≡ false → false ≡ number_misfit cs vs limits base token
  unfolding number_misfit misfits
  number_none name = sym (ap (λ (n : Bool). misfits n (is_outside limits (item_number cs vs token))) name)
