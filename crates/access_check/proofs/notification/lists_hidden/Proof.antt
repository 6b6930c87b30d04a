-- `lists_hidden` is right: the first that it lists is before the end.
-- Assumes nothing.
use Rattle.index.specs.First.{any}
use Rattle.access_check.specs.Notification.{lists_hidden}
use borrow.Author.Rules.{rules}
use Rattle.access_check.proofs.notification.lists_hidden.Statement.{statement}
use Rattle.access_check.proofs.notification.lists_hidden.Tie as tie

first-with-requires : tie.Need-first_with-requires
first-with-requires c κs = search rules

returns : tie.Need-returns
unfolding lists_hidden any
returns c = rw c.first_with.ensures

pub lists_hidden_spec : {M : Type 1} → statement M
lists_hidden_spec = tie.close (tie.spec
    first-with-requires
    returns)
