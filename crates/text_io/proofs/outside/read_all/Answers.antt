use Rattle.text_io.proofs.OutsideLemmas.{took_some}
use Rattle.text_io.proofs.outside.read_all.Goals as goal

pub returns-in_err-extend_from_slice-in-Bytes-clause-memory :
    goal.returns-in_err-extend_from_slice-in-Bytes-clause-memory
returns-in_err-extend_from_slice-in-Bytes-clause-memory g c e =
    took_some _ _ _ c.loop-buf.bytes.items _ c.in-Bytes.n c.loop-buf.invariant.taken c.in-Bytes.ensures.bytes
