-- Rules, and the first that is broken: what "Refusals of the reader" asks of every refusal from 8 on. A rule that is about two things
-- says both.
-- Assumes nothing.
use Rattle.std.specs.Prelude.{Bool, cond, List, [], ◌∷◌, ℕ, zero, suc, ◌-◌, Result, Ok, Err, ⊤}
use Rattle.index.specs.First.{first, any}
use Rattle.rule.specs.declared.Finding.{Finding}

-- what rules say: all are kept, or this is broken
abbrev pub Judgement : Type 0
Judgement = Result ⊤ Finding

-- A rule: its number, the indices from `from` on, below `to`, that it is tested at, whether it is broken at one of them, and for each
-- its place, which of the rule's clauses is broken, and the place that it stands against. Places are indices of tokens, and the indices
-- go in the order of their places.
pub record Rule : Type 0 where
  pub number : ℕ
  pub from : ℕ
  pub to : ℕ
  pub breach : ℕ → Bool
  pub place : ℕ → ℕ
  pub clause : ℕ → ℕ
  pub other : ℕ → ℕ

-- a rule of one clause that is about one thing
abbrev pub plain_rule : ℕ → ℕ → ℕ → (ℕ → Bool) → (ℕ → ℕ) → Rule
plain_rule number from to breach place = record {
  number = number;
  from = from;
  to = to;
  breach = breach;
  place = place;
  clause = λ k. 0;
  other = place;
}

-- what there is to say of a rule that is broken at an index
abbrev pub finding : Rule → ℕ → Finding
finding r k = record { number = r.number; clause = r.clause k; token = record { 0 = r.place k }; other = record { 0 = r.other k } }

-- what one judgement says; and where that is that all is kept, what the next one says
abbrev pub and_then : Judgement → Judgement → Judgement
and_then (Ok _) next = next
and_then (Err f) next = Err f

-- what a rule says: it is kept, or it is broken at its earliest breach
unfoldable pub judge_one : Rule → Judgement
judge_one r = cond (any r.breach r.from r.to) (Err (finding r (first r.breach r.from r.to))) (Ok tt)

-- the first rule that is broken anywhere, at its earliest breach
unfoldable pub judge : List Rule → Judgement
judge [] = Ok tt
judge (r ∷ rs) = and_then (judge_one r) (judge rs)

-- a rule for each of n indices from a on, in rising order
unfoldable pub each_of : (ℕ → Rule) → ℕ → ℕ → List Rule
each_of rule a zero = []
each_of rule a (suc n) = rule a ∷ each_of rule (suc a) n

-- a rule for each index from a on, below b, in rising order
unfoldable pub each : (ℕ → Rule) → ℕ → ℕ → List Rule
each rule a b = each_of rule a (b - a)
