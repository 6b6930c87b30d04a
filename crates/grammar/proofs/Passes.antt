-- The test of a transition table, which antt computes: each state has a rule, and the table leads from it, with each class,
-- to the state that has the derivative. What the test shows at each state and each class is stated below it.
-- Assumes nothing.
use mathlib.Core.Path.{◌≡◌, sym, subst}
use mathlib.Core.Bool.{Bool, true, false, ◌&&◌, ◌||◌}
use mathlib.Core.Logic.{inl, inr}
use mathlib.Core.List.{List, [], ◌∷◌, ◌++◌}
use Prim.Native.Nat.{ℕ, ◌+◌, ◌*◌, ◌/◌, ◌%◌, ◌<◌}
use native.Mathlib.Decide.{ℕ_discrete}
use lib.Arith.{digits_lt, digits_div, digits_mod}
use lib.Dec.{T, eqb, ltb, eqb→eq, ltb→lt}
use lib.ListN.{length, get_or}
use Rattle.grammar.specs.Rule.{Rule, Rule-discrete, never, empty, token, ◌⨾◌, ◌or◌, repeated, last, step, Tree, yield}
use Rattle.grammar.specs.Automaton.{Automaton, target}
use Rattle.grammar.proofs.Derivative.{derivative, blank, proper, matched, simplified}
use Rattle.index.proofs.Tested.{passes, tested, and_left, and_right}

abbrev pub decided : {A : Type 0} → Dec A → Bool
decided (yes p) = true
decided (no n) = false

decided_true : {A : Type 0} (d : Dec A) → T (decided d) → A
decided_true (yes p) h = p
decided_true (no n) h = absurd h

-- the rules are equal
abbrev pub same : Rule → Rule → Bool
same r s = decided (Rule-discrete ℕ_discrete r s)

same_equal : (r s : Rule) → T (same r s) → r ≡ s
same_equal r s h = decided_true (Rule-discrete ℕ_discrete r s) h

-- ∅ stands nowhere in the rule
abbrev pub solid : Rule → Bool
solid never = false
solid empty = true
solid (token c) = true
solid (r ⨾ s) = solid r && solid s
solid (r or s) = solid r && solid s
solid (repeated r s) = solid r && solid s

-- a rule in which ∅ stands nowhere has a tree
pub solid_tree : (r : Rule) → T (solid r) → Tree r
solid_tree never h = h
solid_tree empty h = tt
solid_tree (token c) h = tt
solid_tree (r ⨾ s) h = (solid_tree r (and_left (solid r) (solid s) h), solid_tree s (and_right (solid r) (solid s) h))
solid_tree (r or s) h = inl (solid_tree r (and_left (solid r) (solid s) h))
solid_tree (repeated r s) h = last (solid_tree s (and_right (solid r) (solid s) h))

-- each token of the rule is of a class below n
abbrev pub below : ℕ → Rule → Bool
below n never = true
below n empty = true
below n (token c) = ltb c n
below n (r ⨾ s) = below n r && below n s
below n (r or s) = below n r && below n s
below n (repeated r s) = below n r && below n s

-- each class of the list is below n
abbrev pub All-below : ℕ → List ℕ → Type 0
All-below n [] = Unit {0}
All-below n (c ∷ l) = (c < n) × All-below n l

all_appended : (n : ℕ) (l m : List ℕ) → All-below n l → All-below n m → All-below n (l ++ m)
all_appended n [] m h k = k
all_appended n (c ∷ l) m h k = (h.0, all_appended n l m h.1 k)

pub all_after : (n : ℕ) (l m : List ℕ) → All-below n (l ++ m) → All-below n m
all_after n [] m h = h
all_after n (c ∷ l) m h = all_after n l m h.1

-- the classes of each yield of r are below n
abbrev Yields-below : ℕ → Rule → Type 0
Yields-below n r = (t : Tree r) → All-below n (yield r t)

in_steps : (n : ℕ) (r s : Rule) → Yields-below n r → Yields-below n s → Yields-below n (repeated r s)
in_steps n r s f g (last t) = g t
in_steps n r s f g (step t more) =
    all_appended n (yield r t) (yield (repeated r s) more) (f t) (in_steps n r s f g more)

pub yields_below : (n : ℕ) (r : Rule) → T (below n r) → Yields-below n r
yields_below n never h = λ t. absurd t
yields_below n empty h = λ t. tt
yields_below n (token k) h = λ t. (ltb→lt k n h, tt)
yields_below n (r ⨾ s) h =
    let f = yields_below n r (and_left (below n r) (below n s) h) in
    let g = yields_below n s (and_right (below n r) (below n s) h) in
    λ t. all_appended n (yield r t.0) (yield s t.1) (f t.0) (g t.1)
yields_below n (r or s) h =
    let f = yields_below n r (and_left (below n r) (below n s) h) in
    let g = yields_below n s (and_right (below n r) (below n s) h) in
    elim [ inl x ↦ f x | inr y ↦ g y ]
yields_below n (repeated r s) h =
    let f = yields_below n r (and_left (below n r) (below n s) h) in
    let g = yields_below n s (and_right (below n r) (below n s) h) in
    in_steps n r s f g

-- the first class of a yield is below n
pub first_below : (n : ℕ) (r : Rule) → T (below n r) → (t : Tree r) (c : ℕ) (more : List ℕ) → yield r t ≡ c ∷ more → c < n
first_below n r h t c more e = (subst (All-below n) e (yields_below n r h t)).0

-- the rule of state s
abbrev pub rule : List Rule → ℕ → Rule
rule rules s = get_or rules s never

-- the entry x at index k of the table: state x has the derivative of the rule that k's state has, by k's class
abbrev pub leads_to : Automaton → List Rule → ℕ → ℕ → Bool
leads_to a rules k x = same (derivative (k % a.width) (rule rules (k / a.width))) (rule rules x)

-- The automaton, whose states have these rules, passes the test for the rule r.
pub record Passes (a : Automaton) (rules : List Rule) (r : Rule) : Type 0 where
  pub all_states : length rules ≡ a.states
  pub all_entries : length a.table ≡ a.states * a.width
  -- the dead state has ∅; any other has a rule in which ∅ stands nowhere
  pub dead : rule rules 0 ≡ never
  pub alive : T (passes (λ s q. eqb s 0 || solid q) 0 rules)
  pub repeats : T (passes (λ s q. proper q) 0 rules)
  pub classes : T (passes (λ s q. below a.width q) 0 rules)
  -- the accepting state's rule has one blank tree, any other's none
  pub ends : T (passes (λ s q. same (blank q) (matched (eqb s a.accepting))) 0 rules)
  -- each entry of the table is a state, and the right one
  pub targets : T (passes (λ k x. ltb x a.states) 0 a.table)
  pub entries : T (passes (leads_to a rules) 0 a.table)
  -- it starts with the rule
  pub start_state : T (ltb a.start a.states)
  pub start_alive : T (ltb 0 a.start)
  pub start_rule : rule rules a.start ≡ simplified r

or_right : (b c : Bool) → T (b || c) → (T b → ⊥) → T c
or_right true c h n = absurd (n h)
or_right false c h n = h

module _ {a : Automaton} {rules : List Rule} {r : Rule} (p : Passes a rules r) (s : ℕ) (state : s < a.states) where
  has_rule : s < length rules
  has_rule = subst (λ (n : ℕ). s < n) (sym p.all_states) state

  pub rule_proper : T (proper (rule rules s))
  rule_proper = tested (λ s q. proper q) never rules p.repeats s has_rule

  pub rule_below : T (below a.width (rule rules s))
  rule_below = tested (λ s q. below a.width q) never rules p.classes s has_rule

  pub rule_blank : blank (rule rules s) ≡ matched (eqb s a.accepting)
  rule_blank =
      same_equal _ _ (tested (λ s q. same (blank q) (matched (eqb s a.accepting))) never rules p.ends s has_rule)

  pub rule_solid : (s ≡ 0 → ⊥) → T (solid (rule rules s))
  rule_solid n =
      or_right (eqb s 0) (solid (rule rules s)) (tested (λ s q. eqb s 0 || solid q) never rules p.alive s has_rule)
      (λ t. n (eqb→eq s 0 t))

  module _ (c : ℕ) (class : c < a.width) where
    has_entry : s * a.width + c < length a.table
    has_entry = subst (λ (n : ℕ). s * a.width + c < n) (sym p.all_entries) (digits_lt state class)

    pub entry_state : target a s c < a.states
    entry_state =
        ltb→lt (target a s c) a.states
        (tested (λ k x. ltb x a.states) 0 a.table p.targets (s * a.width + c) has_entry)

    pub entry_rule : derivative c (rule rules s) ≡ rule rules (target a s c)
    entry_rule =
        let k = s * a.width + c in
        rw (digits_mod s class, digits_div s class) at
        (same_equal (derivative (k % a.width) (rule rules (k / a.width))) (get_or rules (get_or a.table k 0) never)
        (tested (leads_to a rules) 0 a.table p.entries k has_entry))
