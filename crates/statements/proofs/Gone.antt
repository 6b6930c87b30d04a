-- 11 is gone: it has no rank, and each refusal has one.
-- Assumes nothing.
use mathlib.Core.Path.{◌≡◌, refl, sym, ap, ◌∙◌}
use mathlib.Core.List.{List, [], ◌∷◌}
use Prim.Native.Nat.{ℕ, ◌<◌}
use native.Mathlib.Omega.{arith}
use lib.ListN.{length, get_or}
use Rattle.token.specs.Cut.{meanings_in}
use Rattle.reader.specs.Buffers.{number_of, Reads, Answer}
use Rattle.reader.proofs.Ends.{read_as}
use Rattle.hint.specs.Answer as hint
use Rattle.std.proofs.Common.{Ok, Err}
use Rattle.hint.specs.Answer.{Answer as HintAnswer}
use Rattle.hint.specs.declared.Refusal.TheVariants.{ShortBuffer, LongValue, BadHint, BadOctet, OutOfRange}
use Rattle.row_status.specs.RowStatus as row
use Rattle.row_status.specs.RowStatus.{Answer as RowAnswer}
use Rattle.row_status.specs.declared.Refusal.TheVariants.{WrongValue, InconsistentValue, NoSuchState}
use Rattle.mib.specs.Raw.{laid, ReadRaw}
use Rattle.statements.specs.Order.{ranks, is_among, ranks_before, rank}
use Rattle.statements.specs.Breach.{InBreach, short_buffer, long_text, not_cut, not_derived, in_module}
use Rattle.statements.specs.Statements.{NeverGiven}
use Rattle.statements.proofs.Breaches.{after_grammar}
use Rattle.statements.proofs.CutNumbers.{cut_numbered}
use Rattle.statements.proofs.Demands.{second_demand}
use Rattle.statements.proofs.ModuleBreaches.{rule_of_row}
use Rattle.statements.proofs.Rising.{rules_in_order, rules_placed}
use Rattle.std.specs.Prelude.{Ok, Err}

-- 11 has no rank
unranked : rank 11 ≡ length ranks
unfolding rank ranks_before is_among
unranked = refl

-- so it is no breach's number
never_broken : (text : List ℕ) (a b m q : ℕ) → InBreach text a b m q → m ≡ 11 → ⊥
never_broken text a b m q (short_buffer few) is = omega arith
never_broken text a b m q (long_text over) is = omega arith
never_broken text a b m q (not_cut e) is = omega (arith, cut_numbered text m q e)
never_broken text a b m q (not_derived c n f) is = omega arith
never_broken text a b m q (in_module {token = t} c d x) is =
    let after = after_grammar (meanings_in text) (rules_in_order (meanings_in text)) (rule_of_row (meanings_in text) m t x) in
    omega (arith, after.1, ap rank is, unranked)

module _ (text : List ℕ) (answer : Answer) (records records' numbers numbers' : List ℕ) (reads : Reads text answer records records' numbers numbers') where
  not_read : number_of answer ≡ 11 → ⊥
  not_read is = go answer refl
    where
      go : (x : Answer) → answer ≡ x → ⊥
      go (Ok count) e = omega (arith, is, ap number_of e)
      go (Err r) e =
          let demand = second_demand text (rules_in_order (meanings_in text)) (rules_placed (meanings_in text)) answer records records' numbers numbers' reads in
          never_broken text (length records) (length numbers) r.number r.place.0 ((demand.refused_exactly r.number r.place.0).0 e).broken (sym (ap number_of e) ∙ is)

-- nor is it the first word that is laid over an answer
not_laid : (text records records' numbers numbers' answer answer' : List ℕ) → ReadRaw text records records' numbers numbers' answer answer'
    → 0 < length answer → get_or answer' 0 0 ≡ 11 → ⊥
unfolding laid
not_laid text records records' numbers numbers' [] answer' r some is = omega arith
not_laid text records records' numbers numbers' (old ∷ slice) answer' r some is =
    not_read text r.right records records' numbers numbers' r.reads (sym (ap (λ (l : List ℕ). get_or l 0 0) r.answer_is) ∙ is)

not_printed : (answer : HintAnswer) → hint.number_of answer ≡ 11 → ⊥
not_printed (Ok n) is = omega arith
not_printed (Err ShortBuffer) is = omega arith
not_printed (Err LongValue) is = omega arith
not_printed (Err BadHint) is = omega arith
not_printed (Err (BadOctet place)) is = omega arith
not_printed (Err OutOfRange) is = omega arith

not_set : (answer : RowAnswer) → row.number_of answer ≡ 11 → ⊥
not_set (Ok next) is = omega arith
not_set (Err WrongValue) is = omega arith
not_set (Err InconsistentValue) is = omega arith
not_set (Err NoSuchState) is = omega arith

pub eleven_gone : NeverGiven 11
eleven_gone = record {
  read = not_read;
  examine = λ text examined records records' numbers numbers' x. not_read text _ records records' numbers numbers' (read_as x);
  exported_read = not_laid;
  print = not_printed;
  set_row = not_set;
}
