-- A mean of the code as that of the rules.
use Rattle.rules.specs.Column as rules
use Rattle.means.specs.declared.Mean.{Mean}

abbrev pub as_mean : Mean → rules.Mean
as_mean m = record { sum = m.sum; whole = m.whole; remainder = m.remainder }
