use Rattle.std.proofs.Common.{sym}
use Rattle.byteorder.specs.Endian.{big_bytes}
use Rattle.zs_objset.specs.Bytes.{record_bytes}
use Rattle.zs_objset.proofs.Lists.{repeated_times}
use Rattle.zs_objset.proofs.bytes.record_of.Goals as goal

pub returns-clause-bytes : goal.returns-clause-bytes
unfolding record_bytes
returns-clause-bytes c = rw (c.in_ok-record.ensures.bytes, c.deref.ensures.value, c.in_ok-sector.ensures.bytes) (sym (repeated_times c.args.sectors 64 (big_bytes 8 c.args.fill)))
