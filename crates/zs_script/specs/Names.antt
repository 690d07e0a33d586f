-- How a script and a reply spell the name of a dataset.
use Rattle.std.specs.Prelude.{ℕ, List, [], ◌++◌, ◌==◌, if◌then◌else◌, take, codes}
use Rattle.zs_ids.specs.declared.dataset.Name.{Name}
use Rattle.zs_ids.specs.declared.dataset.DsName.{DsName}

-- a name
abbrev pub name_text : Name → List ℕ
name_text n = take n.len n.bytes

-- a snapshot's label behind its owner, and nothing for a head
abbrev pub label_text : Name → List ℕ
label_text n = if n.len == 0 then [] else codes "@" ++ name_text n

-- `NAME` for a head, `OWNER@LABEL` for a snapshot; the origin has no name of its own
unfoldable pub ds_text : DsName → List ℕ
ds_text ds = if ds.owner.len == 0 then codes "$origin" else name_text ds.owner ++ label_text ds.label
