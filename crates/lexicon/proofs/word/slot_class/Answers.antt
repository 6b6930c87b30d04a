use Rattle.lexicon.proofs.Tables.{lookup}
use Rattle.lexicon.proofs.word.slot_class.Goals as goal

pub returns : goal.returns
returns c = rw c.wide_byte.ensures.0 (lookup.slots c.args.slot c.requires)
