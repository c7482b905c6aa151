use Rattle.bits.proofs.Writes.{read_packed}
use Rattle.bits.proofs.bit.Goals as goal

pub returns-clause-packed_bits_are_read : goal.returns-clause-packed_bits_are_read
returns-clause-packed_bits_are_read c = read_packed
