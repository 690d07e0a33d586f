-- One id in place of another, and two ids in each other's place.
use Rattle.std.proofs.Common.{◌≡◌, ◌≢◌, Bool, ap, ◌∙◌}
use Rattle.std.specs.Prelude.{if◌then◌else◌}
use Rattle.zs_ids.specs.declared.dataset.DsId.{DsId}
use Rattle.zs_ids.specs.GraphTree.{is_id}
use Rattle.zs_graph.proofs.Graphs.{is_id-same, is_id-other}

-- `b` in the place of `a`
abbrev pub instead : DsId → DsId → DsId → DsId
instead a b x = if is_id x a then b else x

-- `a` and `b` in each other's place
abbrev pub exchanged : DsId → DsId → DsId → DsId
exchanged a b x = if is_id x a then b else (if is_id x b then a else x)

-- one name in place of another
pub instead-is : (a b x : DsId) → x ≡ a → instead a b x ≡ b
instead-is a b x e = ap (λ (t : Bool). if t then b else x) (is_id-same x a e)

pub instead-other : (a b x : DsId) → x ≢ a → instead a b x ≡ x
instead-other a b x ne = ap (λ (t : Bool). if t then b else x) (is_id-other x a ne)

-- each of two has the place of the other, and a third one its own
pub exchanged-first : (a b x : DsId) → x ≡ a → exchanged a b x ≡ b
exchanged-first a b x e = ap (λ (t : Bool). if t then b else (if is_id x b then a else x)) (is_id-same x a e)

pub exchanged-second : (a b x : DsId) → x ≢ a → x ≡ b → exchanged a b x ≡ a
exchanged-second a b x ne e =
    ap (λ (t : Bool). if t then b else (if is_id x b then a else x)) (is_id-other x a ne) ∙ ap (λ (t : Bool). if t then a else x) (is_id-same x b e)

pub exchanged-other : (a b x : DsId) → x ≢ a → x ≢ b → exchanged a b x ≡ x
exchanged-other a b x na nb =
    ap (λ (t : Bool). if t then b else (if is_id x b then a else x)) (is_id-other x a na) ∙ ap (λ (t : Bool). if t then a else x) (is_id-other x b nb)
