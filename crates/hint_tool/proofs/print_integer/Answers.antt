-- What the call answers lies in the buffer.
use Rattle.hint.proofs.Answers.{length_fits}
use Rattle.hint_tool.proofs.print_integer.Goals as goal

pub print_answer-requires : goal.print_answer-requires
print_answer-requires c = length_fits _ _ _ _ _ c.integer-answer.ensures
