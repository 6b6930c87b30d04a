-- When the trees of one rule are one to one those of another, or a part of those. The simplified rule's trees are one to one
-- all trees of the rule.
-- Assumes nothing.
use mathlib.Core.Path.{◌≡◌, refl, sym, ◌∙◌, ap, ap₂, subst}
use mathlib.Core.Logic.{inl, inr, ⊎_elim}
use mathlib.Core.Sum.{inl-injective, inr-injective, inl-ne-inr}
use mathlib.Core.List.{List, [], ◌++◌, append_assoc}
use Prim.Native.Nat.{ℕ}
use native.Mathlib.Omega.{arith}
use Rattle.grammar.specs.Rule.{Rule, never, empty, token, ◌⨾◌, ◌or◌, repeated, Steps, last, step, Tree, yield}
use Rattle.grammar.proofs.Derivative.{sequence, beside, choice, simplified}

-- no two arguments have the same value
abbrev pub Once : {A B : Type 0} → (A → B) → Type 0
Once {A} f = (x y : A) → f x ≡ f y → x ≡ y

-- The trees of q are one to one those of r whose yield satisfies P: each of these comes `back` from one of q, no two trees of q
-- come back as one, and f is what coming back does to the yield.
pub record Part (P : List ℕ → Type 0) (f : List ℕ → List ℕ) (r q : Rule) : Type 0 where
  pub back : Tree q → Tree r
  pub yields : (d : Tree q) → yield r (back d) ≡ f (yield q d)
  pub onto : (t : Tree r) → P (yield r t) → (d : Tree q) × (back d ≡ t)
  pub once : Once back

-- the trees that yield these classes first, less them
abbrev pub After : List ℕ → Rule → Rule → Type 0
After w r q = Part (λ l. (more : List ℕ) × (l ≡ w ++ more)) (λ l. w ++ l) r q

-- all trees
abbrev pub Same : Rule → Rule → Type 0
Same r q = After [] r q

-- the trees that yield no token
abbrev pub Blank : Rule → Rule → Type 0
Blank r q = Part (λ l. l ≡ []) (λ l. l) r q

-- by cases, where the two cases have no value in common
pub cases_once : {A B C : Type 0} (f : A → C) (g : B → C) → Once f → Once g → ((x : A) (y : B) → f x ≡ g y → ⊥)
    → Once (⊎_elim f g)
cases_once f g once-f once-g apart (inl x) (inl y) p = ap inl (once-f x y p)
cases_once f g once-f once-g apart (inl x) (inr y) p = absurd (apart x y p)
cases_once f g once-f once-g apart (inr x) (inl y) p = absurd (apart y x (sym p))
cases_once f g once-f once-g apart (inr x) (inr y) p = ap inr (once-g x y p)

module _ {P : List ℕ → Type 0} {f : List ℕ → List ℕ} where
  -- a part, and the same trees under another rule
  pub renamed : {r q p : Rule} → Part P f r q → Same q p → Part P f r p
  renamed a b =
      record {
        back = λ d. a.back (b.back d);
        yields = λ d. a.yields (b.back d) ∙ ap f (b.yields d);
        onto = λ t h.
            let e = a.onto t h in
            let d = b.onto e.0 (_, refl) in
            (d.0, ap a.back d.1 ∙ e.1);
        once = λ d e p. b.once d e (a.once (b.back d) (b.back e) p);
      }

  -- the same trees under another rule, and a part of those
  pub part_of : {r q p : Rule} → Same r q → Part P f q p → Part P f r p
  part_of {r} a b =
      record {
        back = λ d. a.back (b.back d);
        yields = λ d. a.yields (b.back d) ∙ b.yields d;
        onto = λ t h.
            let e = a.onto t (_, refl) in
            let d = b.onto e.0 (subst P (ap (yield r) (sym e.1) ∙ a.yields e.0) h) in
            (d.0, ap a.back d.1 ∙ e.1);
        once = λ d e p. b.once d e (a.once (b.back d) (b.back e) p);
      }

  -- parts of two rules are one of their choice
  pub either : {r s p q : Rule} → Part P f r p → Part P f s q → Part P f (r or s) (p or q)
  either a b =
      record {
        back = ⊎_elim (λ x. inl (a.back x)) (λ y. inr (b.back y));
        yields = elim [ inl x ↦ a.yields x | inr y ↦ b.yields y ];
        onto =
            elim [
              | inl x ↦ λ h. let e = a.onto x h in (inl e.0, ap inl e.1)
              | inr y ↦ λ h. let e = b.onto y h in (inr e.0, ap inr e.1)
            ];
        once =
            cases_once (λ x. inl (a.back x)) (λ y. inr (b.back y))
            (λ x y p. a.once x y (inl-injective (a.back x) (a.back y) p))
            (λ x y p. b.once x y (inr-injective (b.back x) (b.back y) p))
            (λ x y p. inl-ne-inr p);
      }

  -- a rule that has no tree in the part
  pub nothing : (r : Rule) → ((t : Tree r) → P (yield r t) → ⊥) → Part P f r never
  nothing r none =
      record {
        back = λ d. absurd d;
        yields = λ d. absurd d;
        onto = λ t h. absurd (none t h);
        once = λ d. absurd d;
      }

-- parts of two rules are one of their sequence, where both halves of a yield of the part are of the part
pub both : {P : List ℕ → Type 0} {r s p q : Rule} → ((l m : List ℕ) → P (l ++ m) → P l × P m)
    → Part P (λ l. l) r p → Part P (λ l. l) s q → Part P (λ l. l) (r ⨾ s) (p ⨾ q)
both {r} {s} halves a b =
    record {
      back = λ d. (a.back d.0, b.back d.1);
      yields = λ d. ap₂ (λ l m. l ++ m) (a.yields d.0) (b.yields d.1);
      onto = λ t h.
          let e = halves (yield r t.0) (yield s t.1) h in
          let x = a.onto t.0 e.0 in
          let y = b.onto t.1 e.1 in
          ((x.0, y.0), ap₂ (λ u v. (u, v)) x.1 y.1);
      once = λ d e p. ap₂ (λ u v. (u, v)) (a.once d.0 e.0 (ap (λ t. t.0) p)) (b.once d.1 e.1 (ap (λ t. t.1) p));
    }

pub unchanged : (r : Rule) → Same r r
unchanged r = record { back = λ d. d; yields = λ d. refl; onto = λ t h. (t, refl); once = λ d e p. p }

pub sequence_same : (r s : Rule) → Same (r ⨾ s) (sequence r s)
sequence_same never s = nothing (never ⨾ s) (λ t h. t.0)
sequence_same empty s =
    record {
      back = λ d. (tt, d);
      yields = λ d. refl;
      onto = λ t h. (t.1, refl);
      once = λ d e p. ap (λ t. t.1) p;
    }
sequence_same (token c) s = unchanged (token c ⨾ s)
sequence_same (r ⨾ q) s =
    let same = sequence_same q s in
    record {
      back = λ d. let e = same.back d.1 in ((d.0, e.0), e.1);
      yields = λ d.
          let e = same.back d.1 in
          append_assoc (yield r d.0) (yield q e.0) (yield s e.1) ∙ ap (λ l. yield r d.0 ++ l) (same.yields d.1);
      onto = λ t h.
          let e = same.onto (t.0.1, t.1) (_, refl) in
          ((t.0.0, e.0), ap (λ x. ((t.0.0, x.0), x.1)) e.1);
      once = λ d e p.
          ap₂ (λ u v. (u, v)) (ap (λ t. t.0.0) p) (same.once d.1 e.1 (ap (λ t. (t.0.1, t.1)) p));
    }
sequence_same (r or q) s = unchanged ((r or q) ⨾ s)
sequence_same (repeated r q) s = unchanged (repeated r q ⨾ s)

-- ∅ beside a rule adds nothing
pub left_alone : (r : Rule) → Same (r or never) r
left_alone r =
    record {
      back = λ d. inl d;
      yields = λ d. refl;
      onto = elim [ inl x ↦ λ h. (x, refl) | inr y ↦ λ h. absurd y ];
      once = λ d e p. inl-injective d e p;
    }

right_alone : (s : Rule) → Same (never or s) s
right_alone s =
    record {
      back = λ d. inr d;
      yields = λ d. refl;
      onto = elim [ inl x ↦ λ h. absurd x | inr y ↦ λ h. (y, refl) ];
      once = λ d e p. inr-injective d e p;
    }

beside_same : (r s : Rule) → Same (r or s) (beside r s)
beside_same r never = left_alone r
beside_same r empty = unchanged (r or empty)
beside_same r (token c) = unchanged (r or token c)
beside_same r (s ⨾ q) = unchanged (r or s ⨾ q)
beside_same r (s or q) = unchanged (r or s or q)
beside_same r (repeated s q) = unchanged (r or repeated s q)

pub choice_same : (r s : Rule) → Same (r or s) (choice r s)
choice_same never s = right_alone s
choice_same empty s = beside_same empty s
choice_same (token c) s = beside_same (token c) s
choice_same (r ⨾ q) s = beside_same (r ⨾ q) s
choice_same (r or q) s = beside_same (r or q) s
choice_same (repeated r q) s = beside_same (repeated r q) s

-- a repeat's last part and its steps are apart, and each is taken once
module _ {S L : Type 0} where
  pub same_last : {x y : L} → ◌≡◌ {A = Steps S L} (last x) (last y) → x ≡ y
  same_last p = cc

  pub same_step : {x y : S} {m n : Steps S L} → ◌≡◌ {A = Steps S L} (step x m) (step y n) → (x ≡ y) × (m ≡ n)
  same_step p = (cc, cc)

  pub last_no_step : {x : L} {y : S} {n : Steps S L} → ◌≡◌ {A = Steps S L} (last x) (step y n) → ⊥
  last_no_step p = let z : ◌≡◌ {A = ℕ} 0 1 = cc in omega arith

module _ {r s p q : Rule} (a : Same r p) (b : Same s q) where
  again_back : Tree (repeated p q) → Tree (repeated r s)
  again_back (last t) = last (b.back t)
  again_back (step x more) = step (a.back x) (again_back more)

  again_yields : (d : Tree (repeated p q)) → yield (repeated r s) (again_back d) ≡ yield (repeated p q) d
  unfolding again_back
  again_yields (last t) = b.yields t
  again_yields (step x more) = ap₂ (λ l m. l ++ m) (a.yields x) (again_yields more)

  again_onto : (t : Tree (repeated r s)) → (d : Tree (repeated p q)) × (again_back d ≡ t)
  unfolding again_back
  again_onto (last t) = let e = b.onto t (_, refl) in (last e.0, ap last e.1)
  again_onto (step x more) =
      let e = a.onto x (_, refl) in
      let m = again_onto more in
      (step e.0 m.0, ap₂ step e.1 m.1)

  again_once : Once again_back
  unfolding again_back
  again_once (last t) (last u) e = ap last (b.once t u (same_last e))
  again_once (last t) (step y n) e = absurd (last_no_step e)
  again_once (step x m) (last u) e = absurd (last_no_step (sym e))
  again_once (step x m) (step y n) e = ap₂ step (a.once x y (same_step e).0) (again_once m n (same_step e).1)

  again : Same (repeated r s) (repeated p q)
  again = record { back = again_back; yields = again_yields; onto = λ t h. again_onto t; once = again_once }

pub simplified_same : (r : Rule) → Same r (simplified r)
simplified_same never = unchanged never
simplified_same empty = unchanged empty
simplified_same (token c) = unchanged (token c)
simplified_same (r ⨾ s) =
    renamed (both (λ l m h. ((l, refl), (m, refl))) (simplified_same r) (simplified_same s))
    (sequence_same (simplified r) (simplified s))
simplified_same (r or s) = renamed (either (simplified_same r) (simplified_same s)) (choice_same (simplified r) (simplified s))
simplified_same (repeated r s) = again (simplified_same r) (simplified_same s)
