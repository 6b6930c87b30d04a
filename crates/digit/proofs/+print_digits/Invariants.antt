-- The quotient by the base is below n, so n is the measure.
-- Assumes nothing.
use Rattle.digit.proofs.+print_digits.Given as goal

abbrev pub decreases-print_digits : goal.decreases-print_digits
decreases-print_digits l = l.n
