-- `heading_size` is right: each comparison that was made picks the case. Assumes nothing.
use Rattle.std.proofs.Common.{sym, ◌∙◌}
use Rattle.words.specs.Octets.{heading}
use Rattle.words.proofs.FrontLaws.{starts_is_std}
use Rattle.words.proofs.heading.heading_size.Goals as goal
use Rattle.words.proofs.heading.heading_size.Goals.{then-starts_with-2, else-starts_with-2}

pub returns-then-starts_with-clause-number : goal.returns-then-starts_with-clause-number
unfolding heading
returns-then-starts_with-clause-number c = simp (starts_is_std, sym c.starts_with.ensures.value ∙ c.if-starts_with.true)

pub returns-then-starts_with-3-clause-number : goal.returns-then-starts_with-3-clause-number
unfolding heading
returns-then-starts_with-3-clause-number c =
    let one = sym c.starts_with.ensures.value ∙ c.if-starts_with.false in
    elim c.if-starts_with-2.branch [
      | then-starts_with-2 w ↦ simp (starts_is_std, one, sym c.starts_with-else-starts_with.ensures.value ∙ w.if-starts_with-2.true)
      | else-starts_with-2 w ↦
          let two = sym c.starts_with-else-starts_with.ensures.value ∙ w.if-starts_with-2.false in
          let three = sym w.starts_with-else-starts_with-2.ensures.value ∙ sym w.value-is ∙ c.if-starts_with-3.true in
          simp (starts_is_std, one, two, three)
    ]

pub returns-else-starts_with-3-clause-number : goal.returns-else-starts_with-3-clause-number
unfolding heading
returns-else-starts_with-3-clause-number c =
    let one = sym c.starts_with.ensures.value ∙ c.if-starts_with.false in
    elim c.if-starts_with-2.branch [
      | then-starts_with-2 w ↦ absurd (cc)
      | else-starts_with-2 w ↦
          let two = sym c.starts_with-else-starts_with.ensures.value ∙ w.if-starts_with-2.false in
          let three = sym w.starts_with-else-starts_with-2.ensures.value ∙ sym w.value-is ∙ c.if-starts_with-3.false in
          simp (starts_is_std, one, two, three)
    ]
