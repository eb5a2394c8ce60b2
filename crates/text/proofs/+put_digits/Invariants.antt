-- The text is shorter by one each time.
use Rattle.std.proofs.Common.{length}
use Rattle.text.proofs.+put_digits.Given as goal

abbrev pub decreases-put_digits : goal.decreases-put_digits
decreases-put_digits l = length l.text.now
