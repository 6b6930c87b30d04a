use Rattle.std.proofs.Common.{◌∙◌, ap, List, ℕ, get_or, []}
use Rattle.lexicon.specs.Word.{same, words}
use Rattle.lexicon.specs.declared.table.TheConstants.{LOOKUP}
use Rattle.lexicon.proofs.Words.{row_within, row_compared, whole_text}
use Rattle.lexicon.proofs.Tables.{lookup}
use Rattle.lexicon.proofs.word.is_word.Goals as goal

pub same_spelling-requires-clause-in_b : goal.same_spelling-requires-clause-in_b
same_spelling-requires-clause-in_b c = row_within LOOKUP lookup c.args.k _ c.requires c.wide_byte.ensures.0

pub returns : goal.returns
returns c =
    let e = row_compared LOOKUP lookup c.args.k _ c.requires c.wide_byte.ensures.0 _ c.same_spelling.ensures in
    e ∙ ap (λ (n : List ℕ). same n (get_or words c.args.k [])) (whole_text c.args.name.now)
