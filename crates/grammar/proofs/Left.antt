-- For every rule whose repeats are proper, the trees of the derivative are one to one the rule's trees that yield the token
-- first, less that token, and those of the blank rule are its trees that yield no token. By induction on the rule.
-- Assumes nothing.
use mathlib.Core.Path.{◌≡◌, refl, sym, ◌∙◌, ap, ap₂}
use mathlib.Core.Bool.{Bool, true, false, ◌&&◌}
use mathlib.Core.Logic.{◌⊎◌, inl, inr, ⊎_elim}
use mathlib.Core.List.{List, [], ◌∷◌, ◌++◌, cons-ne-nil, head-eq_of_cons-eq}
use Prim.Native.Nat.{ℕ}
use borrow.Author.Tests.{eqb-true, eqb-false}
use lib.Dec.{T, eqb}
use Rattle.grammar.specs.Rule.{Rule, never, empty, token, ◌⨾◌, ◌or◌, repeated, last, step, Tree, yield}
use Rattle.grammar.proofs.Derivative.{sequence, blank, matched, derivative, is_never, proper}
use Rattle.index.proofs.Tested.{and_left, and_right}
use Rattle.grammar.proofs.Part.{Same, Blank, After, cases_once, renamed, part_of, either, nothing, both, unchanged}
use Rattle.grammar.proofs.Part.{sequence_same, left_alone, choice_same, same_last, same_step, last_no_step}

-- a repeat is its last part, or a step and then the repeat
unrolled : (r s : Rule) → Same (repeated r s) (s or r ⨾ repeated r s)
unrolled r s =
    record {
      back = ⊎_elim last (λ u. step u.0 u.1);
      yields = elim [ inl t ↦ refl | inr u ↦ refl ];
      onto = elim [ last x ↦ λ h. (inl x, refl) | step x more ↦ λ h. (inr (x, more), refl) ];
      once =
          cases_once last (λ u. step u.0 u.1) (λ x y e. same_last e)
          (λ x y e. ap₂ (λ u v. (u, v)) (same_step e).0 (same_step e).1)
          (λ x y e. last_no_step e);
    }

is_never_empty : (r : Rule) → T (is_never r) → Tree r → ⊥
is_never_empty never h t = t
is_never_empty empty h t = h
is_never_empty (token c) h t = h
is_never_empty (r ⨾ s) h t = h
is_never_empty (r or s) h t = h
is_never_empty (repeated r s) h t = h

front_nil : (l m : List ℕ) → l ++ m ≡ [] → l ≡ []
front_nil [] m e = refl
front_nil (x ∷ l) m e = absurd (cons-ne-nil x (l ++ m) e)

back_nil : (l m : List ℕ) → l ++ m ≡ [] → m ≡ []
back_nil [] m e = e
back_nil (x ∷ l) m e = absurd (cons-ne-nil x (l ++ m) e)

-- where a rule is never blank, no sequence that starts with it is
starts : {r p : Rule} (s : Rule) → Blank r p → T (is_never p) → (t : Tree (r ⨾ s)) → yield (r ⨾ s) t ≡ [] → ⊥
starts {r} {p} s a h t e = is_never_empty p h (a.onto t.0 (front_nil (yield r t.0) (yield s t.1) e)).0

pub blank_part : (r : Rule) → T (proper r) → Blank r (blank r)
blank_part never h = record { back = λ d. d; yields = λ d. refl; onto = λ t e. (t, refl); once = λ d e p. p }
blank_part empty h = record { back = λ d. d; yields = λ d. refl; onto = λ t e. (t, refl); once = λ d e p. p }
blank_part (token c) h = nothing (token c) (λ t e. cons-ne-nil c [] e)
blank_part (r ⨾ s) h =
    renamed
    (both (λ l m e. (front_nil l m e, back_nil l m e)) (blank_part r (and_left (proper r) (proper s) h))
    (blank_part s (and_right (proper r) (proper s) h)))
    (sequence_same (blank r) (blank s))
blank_part (r or s) h =
    renamed (either (blank_part r (and_left (proper r) (proper s) h)) (blank_part s (and_right (proper r) (proper s) h)))
    (choice_same (blank r) (blank s))
blank_part (repeated r s) h =
    let starting = and_left (is_never (blank r)) (proper r && proper s) h in
    let parts = and_right (is_never (blank r)) (proper r && proper s) h in
    part_of (unrolled r s)
    (renamed
    (either (blank_part s (and_right (proper r) (proper s) parts))
    (nothing (r ⨾ repeated r s) (starts (repeated r s) (blank_part r (and_left (proper r) (proper s) parts)) starting)))
    (left_alone (blank s)))

-- no tree of the rule yields a token
abbrev pub Silent : Rule → Type 0
Silent r = (t : Tree r) → yield r t ≡ []

silent_same : {r q : Rule} → Same r q → Silent r → Silent q
silent_same a h d = sym (a.yields d) ∙ h (a.back d)

pub blank_silent : (r : Rule) → Silent (blank r)
blank_silent never = λ t. absurd t
blank_silent empty = λ t. refl
blank_silent (token c) = λ t. absurd t
blank_silent (r ⨾ s) =
    let f = blank_silent r in
    let g = blank_silent s in
    silent_same (sequence_same (blank r) (blank s)) (λ t. ap₂ (λ l m. l ++ m) (f t.0) (g t.1))
blank_silent (r or s) =
    let f = blank_silent r in
    let g = blank_silent s in
    silent_same (choice_same (blank r) (blank s)) (elim [ inl x ↦ f x | inr y ↦ g y ])
blank_silent (repeated r s) = blank_silent s

-- the first token of two lists, one after the other, is the second's where the first is empty, and else the first's
first_token : (l m : List ℕ) (c : ℕ) (more : List ℕ) → l ++ m ≡ c ∷ more
    → ((l ≡ []) × (m ≡ c ∷ more)) ⊎ ((rest : List ℕ) × (l ≡ c ∷ rest))
first_token [] m c more e = inl (refl, e)
first_token (x ∷ rest) m c more e = inr (rest, ap (λ y. y ∷ rest) (head-eq_of_cons-eq e))

-- of a sequence, the first token is the first rule's, or the second's behind a blank tree of the first
after_sequence : {r s p e q : Rule} (c : ℕ) → After (c ∷ []) r p → Blank r e → Silent e → After (c ∷ []) s q
    → After (c ∷ []) (r ⨾ s) (p ⨾ s or e ⨾ q)
after_sequence {r} {s} {p} {e} {q} c a b mute g =
    record {
      back = ⊎_elim (λ x. (a.back x.0, x.1)) (λ y. (b.back y.0, g.back y.1));
      yields =
          elim [
            | inl x ↦ ap (λ l. l ++ yield s x.1) (a.yields x.0)
            | inr y ↦
                ap₂ (λ l m. l ++ m) (b.yields y.0 ∙ mute y.0) (g.yields y.1)
                ∙ ap (λ l. c ∷ (l ++ yield q y.1)) (sym (mute y.0))
          ];
      onto = λ t h.
          ⊎_elim
          (λ v.
          let x = b.onto t.0 v.0 in
          let y = g.onto t.1 (h.0, v.1) in
          (inr (x.0, y.0), ap₂ (λ u w. (u, w)) x.1 y.1))
          (λ v. let x = a.onto t.0 v in (inl (x.0, t.1), ap (λ u. (u, t.1)) x.1))
          (first_token (yield r t.0) (yield s t.1) c h.0 h.1);
      once =
          cases_once (λ x. (a.back x.0, x.1)) (λ y. (b.back y.0, g.back y.1))
          (λ x y w. ap₂ (λ u v. (u, v)) (a.once x.0 y.0 (ap (λ t. t.0) w)) (ap (λ t. t.1) w))
          (λ x y w. ap₂ (λ u v. (u, v)) (b.once x.0 y.0 (ap (λ t. t.0) w)) (g.once x.1 y.1 (ap (λ t. t.1) w)))
          (λ x y w.
          cons-ne-nil c (yield p x.0)
          (sym (a.yields x.0) ∙ ap (λ t. yield r t.0) w ∙ b.yields y.0 ∙ mute y.0));
    }

-- of a sequence whose first rule is never blank, the first token is the first rule's
after_first : {r p e : Rule} (s : Rule) (c : ℕ) → After (c ∷ []) r p → Blank r e → T (is_never e)
    → After (c ∷ []) (r ⨾ s) (p ⨾ s)
after_first {r} {p} {e} s c a b none =
    record {
      back = λ d. (a.back d.0, d.1);
      yields = λ d. ap (λ l. l ++ yield s d.1) (a.yields d.0);
      onto = λ t h.
          ⊎_elim
          (λ v. absurd (is_never_empty e none (b.onto t.0 v.0).0))
          (λ v. let x = a.onto t.0 v in ((x.0, t.1), ap (λ u. (u, t.1)) x.1))
          (first_token (yield r t.0) (yield s t.1) c h.0 h.1);
      once = λ x y w. ap₂ (λ u v. (u, v)) (a.once x.0 y.0 (ap (λ t. t.0) w)) (ap (λ t. t.1) w);
    }

after_token : (k c : ℕ) (b : Bool) → eqb k c ≡ b → After (c ∷ []) (token k) (matched b)
after_token k c true e =
    record {
      back = λ d. tt;
      yields = λ d. ap (λ x. x ∷ []) (eqb-true k c e);
      onto = λ t h. (tt, refl);
      once = λ d e w. refl;
    }
after_token k c false e = nothing (token k) (λ t h. eqb-false k c e (head-eq_of_cons-eq h.1))

pub derivative_part : (c : ℕ) (r : Rule) → T (proper r) → After (c ∷ []) r (derivative c r)
derivative_part c never h = nothing never (λ t e. t)
derivative_part c empty h = nothing empty (λ t e. cons-ne-nil c e.0 (sym e.1))
derivative_part c (token k) h = after_token k c (eqb k c) refl
derivative_part c (r ⨾ s) h =
    let pr = and_left (proper r) (proper s) h in
    let ps = and_right (proper r) (proper s) h in
    renamed (after_sequence c (derivative_part c r pr) (blank_part r pr) (blank_silent r) (derivative_part c s ps))
    (renamed (either (sequence_same (derivative c r) s) (sequence_same (blank r) (derivative c s)))
    (choice_same (sequence (derivative c r) s) (sequence (blank r) (derivative c s))))
derivative_part c (r or s) h =
    renamed
    (either (derivative_part c r (and_left (proper r) (proper s) h)) (derivative_part c s (and_right (proper r) (proper s) h)))
    (choice_same (derivative c r) (derivative c s))
derivative_part c (repeated r s) h =
    let starting = and_left (is_never (blank r)) (proper r && proper s) h in
    let parts = and_right (is_never (blank r)) (proper r && proper s) h in
    let pr = and_left (proper r) (proper s) parts in
    let first = after_first (repeated r s) c (derivative_part c r pr) (blank_part r pr) starting in
    let again = derivative_part c s (and_right (proper r) (proper s) parts) in
    part_of (unrolled r s)
    (renamed (either again first)
    (renamed (either (unchanged (derivative c s)) (sequence_same (derivative c r) (repeated r s)))
    (choice_same (derivative c s) (sequence (derivative c r) (repeated r s)))))
