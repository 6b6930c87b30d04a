-- The run of an automaton that passes the test for a rule gives the right verdict on every class sequence, and no sequence has
-- two derivations: by induction on the sequence, over all states but the dead one, each token by the derivative.
-- Assumes nothing.
use mathlib.Core.Path.{◌≡◌, refl, sym, ◌∙◌, ap, subst}
use mathlib.Core.Bool.{Bool, true, false, cond}
use mathlib.Core.List.{List, [], ◌∷◌}
use Prim.Native.Nat.{ℕ, ◌<◌}
use native.Mathlib.Omega.{arith}
use borrow.Author.Tests.{eqb-true, eqb-false, ltb-true, ltb-false}
use lib.Dec.{T, eqb, ltb, ltb→lt}
use Rattle.grammar.specs.Rule.{Rule}
use Rattle.grammar.specs.Answer.{Verdict, Answers}
use Rattle.grammar.specs.Automaton.{Automaton, target, next, at_the_end, unless_dead, one_later, run_from, run}
use Rattle.grammar.proofs.Left.{blank_part, blank_silent, derivative_part}
use Rattle.grammar.proofs.Part.{Same, After, simplified_same}
use Rattle.grammar.proofs.Passes.{Passes, rule, rule_proper, rule_below, rule_blank, rule_solid}
use Rattle.grammar.proofs.Passes.{entry_state, entry_rule, first_below, solid_tree}
use Rattle.grammar.proofs.Right.{Unique, Right, right_on, right_same, right_dead, right_end, answers}
use Rattle.grammar.proofs.Right.{unique_on, unique_dead, unique_end, Dead, nothing_left}

module _ {a : Automaton} {rules : List Rule} {r : Rule} (p : Passes a rules r) where
  -- a state, and not the dead one
  abbrev Live : ℕ → Type 0
  Live s = (s < a.states) × (s ≡ 0 → ⊥)

  -- state x is where class c leads from state s: what is left of the rule of s is the rule of x
  abbrev Leads : ℕ → ℕ → ℕ → Type 0
  Leads s c x =
      (x ≡ 0 → Dead c (rule rules s))
      × ((x ≡ 0 → ⊥) → (x < a.states) × After (c ∷ []) (rule rules s) (rule rules x))

  after_entry : (s c : ℕ) → s < a.states → c < a.width → After (c ∷ []) (rule rules s) (rule rules (target a s c))
  after_entry s c state class =
      subst (λ q. After (c ∷ []) (rule rules s) q) (entry_rule p s state c class)
      (derivative_part c (rule rules s) (rule_proper p s state))

  leads : (s c : ℕ) → s < a.states → (b : Bool) → ltb c a.width ≡ b → Leads s c (cond b (target a s c) 0)
  leads s c state true e =
      let class = ltb-true c a.width e in (
        λ z. nothing_left (after_entry s c state class) (ap (λ x. rule rules x) z ∙ p.dead),
        λ n. (entry_state p s state c class, after_entry s c state class),
      )
  leads s c state false e =
      let first = first_below a.width (rule rules s) (rule_below p s state) in
      (λ z t more f. omega (arith, ltb-false c a.width e, first t c more f), λ n. absurd (n refl))

  -- the verdict is right and there are no two derivations, from a state on
  abbrev Settled : ℕ → List ℕ → Verdict → Type 0
  Settled s ts v = Right (rule rules s) ts v × Unique (rule rules s) ts

  settled_end : (s : ℕ) → Live s → Settled s [] (at_the_end (eqb s a.accepting))
  settled_end s (state, alive) =
      let q = rule rules s in
      let b = blank_part q (rule_proper p s state) in
      let e = rule_blank p s state in (
        right_end b (eqb s a.accepting) e (solid_tree q (rule_solid p s state alive)) (blank_silent q),
        unique_end b (eqb s a.accepting) e,
      )

  settled_token : (s c x : ℕ) (ts : List ℕ) (v : Verdict) → Live s → Leads s c x → (Live x → Settled x ts v)
      → (b : Bool) → eqb x 0 ≡ b → Settled s (c ∷ ts) (unless_dead b (one_later v))
  settled_token s c x ts v live l rest true e =
      let dead = l.0 (eqb-true x 0 e) in
      let q = rule rules s in
      (right_dead q ts (solid_tree q (rule_solid p s live.0 live.1)) dead, unique_dead q ts dead)
  settled_token s c x ts v live l rest false e =
      let on = l.1 (eqb-false x 0 e) in
      let h = rest (on.0, eqb-false x 0 e) in
      (right_on on.1 ts v h.0, unique_on (c ∷ []) on.1 ts h.1)

  settled : (ts : List ℕ) (s : ℕ) → Live s → Settled s ts (run_from a s ts)
  unfolding run_from
  settled [] s live = settled_end s live
  settled (c ∷ ts) s live =
      let x = next a s c in
      settled_token s c x ts (run_from a x ts) live (leads s c live.0 (ltb c a.width) refl) (settled ts x) (eqb x 0) refl

  starts_live : Live a.start
  starts_live = (ltb→lt a.start a.states p.start_state, λ e. subst (λ s. T (ltb 0 s)) e p.start_alive)

  starts_with : Same r (rule rules a.start)
  starts_with = subst (λ q. Same r q) (sym p.start_rule) (simplified_same r)

  -- For every rule, every automaton that passes the test for it, and every class sequence: the run's verdict is right.
  pub run_answers : (ts : List ℕ) → Answers r ts (run a ts)
  run_answers ts =
      let h = settled ts a.start starts_live in
      answers r ts (run a ts) (right_same starts_with ts (run a ts) h.0) (unique_on [] starts_with ts h.1)
