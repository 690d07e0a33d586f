use Rattle.zs_record.proofs.record_writing.put_logs.Goals as goal

pub put_set-requires : goal.put_set-requires
put_set-requires c = rw (c.as_slice.ensures, c.spans-item.is) (c.requires c.loop-spans.spans-index _ c.loop-spans-test.true)
