-- The places fall.
-- Assumes nothing.
use Rattle.digit.proofs.+print_pointed.Given as goal

abbrev pub decreases-print_pointed : goal.decreases-print_pointed
decreases-print_pointed l = l.places
