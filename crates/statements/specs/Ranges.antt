-- What request 2 of document 02 asks of ranges, in plain words, and the lists that it names. Sizes are ranges too.
-- Assumes nothing.
use Rattle.std.specs.Prelude.{◌≡◌, ◌↔◌, true, [], ◌∷◌, ℕ, ℤ, Ok, Err}
use Rattle.std.specs.Int.Signed.{lt_z}
use Rattle.terminal.specs.Terminal.{number, dots, bar}
use Rattle.rule.specs.Rule.{judge_one, Judgement}
use Rattle.definition.specs.declared.Span.{Span}
use Rattle.module_table.specs.Module.{Module}
use Rattle.sub_type.specs.Range.{starts_range, is_pair, low, high}
use Rattle.range_list.specs.Refusal.{misplaced_range}
use Rattle.statements.specs.Breach.{Within, LiesIn}

-- the ranges between these brackets are apart: each pair's low is below its high, and no number lies in two of them
pub record Apart (m : Module) (s : Span) : Type 0 where
  pub pairs : (i : ℕ) → Within m s i → starts_range m.classes i ≡ true → is_pair m.classes i ≡ true
      → lt_z (low m.classes m.values i) (high m.classes m.values i) ≡ true
  pub once : (i j : ℕ) (z : ℤ) → Within m s i → Within m s j → starts_range m.classes i ≡ true → starts_range m.classes j ≡ true
      → LiesIn m i z → LiesIn m j z → i ≡ j

-- what rule 16 says of the tokens a..b | c..d, by the values of the numbers
abbrev pub two_pairs : ℕ → ℕ → ℕ → ℕ → Judgement
two_pairs a b c d =
    judge_one
    (misplaced_range (number ∷ dots ∷ number ∷ bar ∷ number ∷ dots ∷ number ∷ []) (a ∷ 0 ∷ b ∷ 0 ∷ c ∷ 0 ∷ d ∷ [])
    (record { from = 0; to = 7 }))

pub record RangesInAnyOrder : Type 0 where
  -- "any order, no number in two ranges": rule 16 is kept between some brackets exactly where the ranges are apart
  pub apart : (m : Module) (s : Span) → (judge_one (misplaced_range m.classes m.values s) ≡ Ok tt) ↔ Apart m s
  -- "(1..4 | 4..9) stays refused at 4..9", which is token 4; it stands against 1..4
  pub touching : two_pairs 1 4 4 9 ≡ Err (record { number = 16; clause = 2; token = record { 0 = 4 }; other = record { 0 = 0 } })
  -- "(5..9 | 1..4) is now accepted", and what "a switch maker writes" is too
  pub falling : two_pairs 5 9 1 4 ≡ Ok tt
  pub requested : two_pairs 10 20 1 5 ≡ Ok tt
