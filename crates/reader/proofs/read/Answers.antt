-- `read` is right: it answers by number, place and count what is examined.
-- Assumes nothing.
use Rattle.std.proofs.Common.{rules, ◌≡◌}
use Rattle.reader.specs.Buffers.{answer_of}
use Rattle.reader.proofs.Ends.{read_as}
use Rattle.reader.proofs.read.Goals as goal

pub returns : goal.returns
returns c =
    let is : c.map_err.result ≡ answer_of c.examine.result = search rules in
    rw is (read_as c.examine.ensures)
