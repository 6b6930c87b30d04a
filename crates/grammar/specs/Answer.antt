-- What a right verdict on a sequence is: refusal 7 and its place, in terms of derivations alone. Document 01, "Grammar",
-- "Refusals of the reader". Said once, of derivations of any kind, where `spelt` gives the sequence that one derives. Over
-- class sequences the derivations are the trees of a rule; over tokens they are those of `Derivation`.
-- Assumes nothing.
use Rattle.std.specs.Prelude.{◌≡◌, ◌↔◌, List, ◌++◌, ℕ, ◌+◌, ◌≤◌, ◌<◌, length, take}
use Rattle.grammar.specs.Rule.{Rule, yield}

-- derived, or the index of the token at fault: the number of tokens where the end is at fault
pub data Verdict : Type 0 where
  derived : Verdict
  refused : ℕ → Verdict

-- the number that document 01 has for the verdict
abbrev pub refusal_number : Verdict → ℕ
refusal_number derived = 0
refusal_number (refused i) = 7

module _ {D X : Type 0} (spelt : D → List X) where
  -- ts is derived: there is a derivation of it
  abbrev pub Derivable : List X → Type 0
  Derivable ts = (d : D) × (spelt d ≡ ts)

  -- some derived sequence, of whatever length, begins with ts
  abbrev pub ViablePrefix : List X → Type 0
  ViablePrefix ts = (more : List X) × Derivable (ts ++ more)

  -- v is the right verdict on ts
  pub record RightVerdict (ts : List X) (v : Verdict) : Type 0 where
    -- derived exactly where a derivation exists
    pub accepts : (v ≡ derived) ↔ Derivable ts
    -- refused at a token: some derived sequence begins with the tokens before it, none begins with these and it
    pub spoiled : (i : ℕ) → v ≡ refused i → i < length ts → ViablePrefix (take i ts) × (ViablePrefix (take (i + 1) ts) → ⊥)
    -- refused at the end: some derived sequence begins with all the tokens, and none is these
    pub cut_short : v ≡ refused (length ts) → ViablePrefix ts × (Derivable ts → ⊥)
    -- refused nowhere else
    pub within : (i : ℕ) → v ≡ refused i → i ≤ length ts
    -- two derivations of ts are equal
    pub one_reading : (d e : D) → spelt d ≡ ts → spelt e ≡ ts → d ≡ e

-- the rule derives the class sequence ts
abbrev pub Derives : Rule → List ℕ → Type 0
Derives r ts = Derivable (yield r) ts

-- some class sequence that the rule derives begins with ts
abbrev pub Begins : Rule → List ℕ → Type 0
Begins r ts = ViablePrefix (yield r) ts

-- v is the right verdict on the class sequence ts
abbrev pub Answers : Rule → List ℕ → Verdict → Type 0
Answers r ts v = RightVerdict (yield r) ts v
