use Rattle.std.proofs.Common.{◌≡◌, ◌++◌, length, map, take, option_map, string_bytes}
use Rattle.zs_session.specs.Images.{AreNew, devices_of}
use Rattle.zs_session.proofs.images.fetch_images.Given as goal

abbrev pub invariant-loop-name : goal.invariant-loop-name
invariant-loop-name g l = record {
  left : g.B.Bay.left l.initial.bay ≡ option_map (λ rest. devices_of l.lanes.items ++ rest) (g.B.Bay.left l.bay);
  asked : g.B.Bay.asked l.bay ≡ option_map (λ asked. asked ++ map string_bytes (take l.name-index l.names)) (g.B.Bay.asked l.initial.bay);
  count : length l.lanes.items ≡ l.name-index;
  new : AreNew g.B.Dev.Device.faults l.lanes.items;
  faults : g.B.Bay.faults l.bay ≡ g.B.Bay.faults l.initial.bay;
}
