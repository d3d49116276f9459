use Rattle.bits.proofs.+bytes_or_zero.Given as goal

abbrev pub decreases-bytes_or_zero : goal.decreases-bytes_or_zero
decreases-bytes_or_zero l = l.n
