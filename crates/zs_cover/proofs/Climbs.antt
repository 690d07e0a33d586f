-- Each live piece has one entry at home: it is found by climbing from any dataset that holds the piece.
use Rattle.std.proofs.Common.{◌≡◌, refl, sym, subst, ◌∙◌}
use Rattle.zs_ids.specs.declared.key.Key.{Key}
use Rattle.zs_ids.specs.declared.block.Bp.{Bp}
use Rattle.zs_ids.specs.declared.dataset.DsId.{DsId}
use Rattle.zs_graph.specs.Climbing.{IsFoundFrom}
use Rattle.zs_graph.proofs.Climbs.{has_home, one_home}
use Rattle.zs_cover.specs.Laws.{HomeLaw}

-- the law of the home
pub home_is : HomeLaw
home_is room g n p valid live =
    let holds = live.holds in
    let x = has_home g n valid.graph live.holder holds.entry live.is_dataset holds.is_entry in
    let home = x.0 in
    let e = holds.entry in (
      home.id,
      e,
      record { holder = home; named = refl; home = x.1; is_piece = holds.is_piece },
      λ id f other.
          let one = one_home g n valid.graph home other.holder e f p x.1 other.home holds.is_piece other.is_piece in
          (sym other.named ∙ one.0, one.1),
      λ d f i h is_piece.
          let y = has_home g n valid.graph d f i h in
          let one = one_home g n valid.graph home y.0 e f p x.1 y.1 holds.is_piece is_piece in
          (one.1, subst (λ (id : DsId). IsFoundFrom g id e d) one.0 (subst (λ (a : Key × Bp). IsFoundFrom g (y.0).id a d) one.1 y.2)),
    )
