use Rattle.zs_record.proofs.record_writing.put_sets.Goals as goal

pub put_stored_set-requires : goal.put_stored_set-requires
put_stored_set-requires c = rw c.set-item.is (c.requires c.loop-set.set-index _ c.loop-set-test.true)
