-- Names and keys have one spelling.
use Rattle.std.proofs.Common.{◌≡◌, ℕ, ◌^◌, cond, List, Ok, Err, refl, append_assoc}
use Rattle.std.specs.Int.{w8, w16, w32}
use Rattle.zs_ids.specs.declared.dataset.Name.{Name}
use Rattle.zs_record.specs.declared.fault.RecordFault.TheVariants as faults
use Rattle.zs_record.specs.Reading.{◌>>=◌}
use Rattle.zs_record.specs.Numbers.{number_of, number_within, bytes_of}
use Rattle.zs_record.specs.Names.{is_name, name_of}
use Rattle.zs_record.specs.Blocks.{key_of}
use Rattle.zs_record.specs.Laws.{IsPart, IsName, IsWideKey}
use Rattle.zs_record.specs.Spelling.{name_bytes, key_bytes}
use Rattle.zs_record.proofs.Parts.{wide8, wide16, wide32, number_part, within_part, bytes_part, taken_part}
use Rattle.zs_record.proofs.Pairs.{then_read, made_read, pair_part, made_part, restated, bind_bind, inside, not_outside}

-- ---- names

abbrev name_with : ℕ × List ℕ → Name
name_with x = record { len = x.0; bytes = x.1 }

name_same : (least most : ℕ) (bytes : List ℕ)
    → (made_read name_with (then_read (number_within w8 least most) (λ len. bytes_of 12)) bytes >>= λ x. cond (is_name x.0.len x.0.bytes) (Ok x) (Err faults.Field)) ≡ name_of least most bytes
unfolding name_of
name_same least most bytes = simp bind_bind

pub name_part : (least most : ℕ) → IsPart (name_of least most) name_bytes (IsName least most)
unfolding name_bytes
name_part least most =
    let made = made_part (pair_part (within_part w8 256 wide8 least most) (λ len lt. bytes_part 12)) name_with (λ n. (n.len, n.bytes)) (λ x is. refl) in
    restated (taken_part _ _ _ made (λ n. is_name n.len n.bytes) faults.Field)
    (name_same least most) (λ n is. refl)
    (λ n is. record { byte = is.0.1.0.0; len = inside least most n.len is.0.1.0.1; twelve = is.0.1.1; text = is.1 })
    (λ n is. ((refl, ((is.byte, not_outside least most n.len is.len.0 is.len.1), is.twelve)), is.text))

-- ---- keys

key_same : (bytes : List ℕ)
    → made_read (λ k. record { object = k.0; rank = k.1.0; depth = k.1.1.0; leaf = k.1.1.1 }) (then_read (number_of w16) (λ a. then_read (number_of w8) (λ b. then_read (number_of w8) (λ c. number_of w32)))) bytes ≡ key_of bytes
unfolding key_of
key_same bytes = simp bind_bind

pub key_part : IsPart key_of key_bytes IsWideKey
unfolding key_bytes
key_part =
    restated (made_part (pair_part (number_part w16 (2 ^ 16) wide16) (λ a at. pair_part (number_part w8 256 wide8) (λ b bt. pair_part (number_part w8 256 wide8) (λ c ct. number_part w32 (2 ^ 32) wide32))))
    (λ k. record { object = k.0; rank = k.1.0; depth = k.1.1.0; leaf = k.1.1.1 }) (λ k. (k.object, (k.rank, (k.depth, k.leaf)))) (λ k is. refl))
    key_same (λ k is. simp append_assoc)
    (λ k is. record { object = is.1.0; rank = is.1.1.0; depth = is.1.1.1.0; leaf = is.1.1.1.1 })
    (λ k is. (refl, (is.object, (is.rank, (is.depth, is.leaf)))))
