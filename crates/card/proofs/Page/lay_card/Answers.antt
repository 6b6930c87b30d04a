-- The records of an accepted text lie in the buffer.
use Rattle.std.proofs.Common.{ℕ, ◌*◌, refl, arith}
use Rattle.std.proofs.lemmas.List.{length-replicate, length-take}
use Rattle.card.proofs.Accepted.{accepted_records}
use Rattle.card.proofs.Page.lay_card.Goals as goal

pub overflow_mul-records : goal.overflow_mul-records
overflow_mul-records c =
    let fit = accepted_records _ _ _ _ _ c.in-Ok.ensures refl in
    omega (arith, fit)

pub slice_bounds-records-end : goal.slice_bounds-records-end
slice_bounds-records-end c =
    let fit = accepted_records _ _ _ _ _ c.in-Ok.ensures refl in
    omega (arith, fit, c.read-answer.auto.records, length-replicate {A = ℕ} 5120 0)

pub slice_bounds-lay_records-end : goal.slice_bounds-lay_records-end
slice_bounds-lay_records-end c =
    let fit = accepted_records _ _ _ _ _ c.in-Ok.ensures refl in
    omega (arith, fit, c.read-answer.auto.records, length-replicate {A = ℕ} 5120 0, length-take (10 * c.in-Ok.count) c.read-answer.new.records)
