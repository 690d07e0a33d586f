use Rattle.std.proofs.Common.{◌≡◌, ◌∙◌, ◌+◌, ap, sym, filter, length, arith, cond, true, is_some}
use Rattle.zs_scan.specs.View.{flies, is_flying}
use Rattle.zs_scan.proofs.landing.land_one.Goals as goal

pub push-requires : goal.push-requires
push-requires c =
    let flew : flies c.remove.result ≡ true = ap flies (c.remove.ensures.was ∙ sym c.in-Some-Some.ensures) ∙ ap is_some c.in-Some-Some.field-0-is in
    let less : length (filter is_flying c.remove.new.self) + 1 ≡ length (filter is_flying c.args.marks.now) = ap (λ b. length (filter is_flying c.remove.new.self) + cond b 1 0) (sym flew) ∙ c.remove.ensures.flying in
    omega (arith, less, c.requires)
