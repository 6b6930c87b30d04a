-- The exported functions leave nothing open.
-- Assumes nothing.
use mathlib.Core.Path.{◌≡◌, sym, ap, ◌∙◌}
use mathlib.Core.List.{List, [], ◌∷◌}
use Prim.Native.Nat.{ℕ}
use Rattle.hint.specs.Answer.{Verdict}
use Rattle.reader.specs.Buffers.{number_of, place_of, answered_count, answer_to, Answer}
use Rattle.mib.specs.Raw.{laid, ReadRaw, PrintedRaw}
use Rattle.statements.specs.Statements.{Exported}
use Rattle.statements.proofs.Alike.{read_once}

read_same : (text records r s numbers m n answer x y : List ℕ) → ReadRaw text records r numbers m answer x → ReadRaw text records s numbers n answer y
    → (r ≡ s) × (m ≡ n) × (x ≡ y)
read_same text records r s numbers m n answer x y p q =
    let one = read_once answer_to text p.right q.right records r s numbers m n p.reads q.reads in (
      one.1,
      one.2,
      p.answer_is
          ∙ ap (λ (a : Answer). laid (number_of a ∷ place_of a ∷ answered_count a ∷ []) answer) one.0
          ∙ sym q.answer_is,
    )

printed_same : (part : ℕ) (v : Verdict) (out o p answer x y : List ℕ) → PrintedRaw part v out o answer x → PrintedRaw part v out p answer y
    → (o ≡ p) × (x ≡ y)
printed_same part v out o p answer x y a b = (a.out_is ∙ sym b.out_is, a.answer_is ∙ sym b.answer_is)

pub exported : Exported
exported = record {
  read = read_same;
  print_octets = λ hint octets out o p answer x y. printed_same _ _ out o p answer x y;
  print_integer = λ hint value out o p answer x y. printed_same _ _ out o p answer x y;
  set_row = λ state value complete willing answer x y a b. a ∙ sym b;
}
