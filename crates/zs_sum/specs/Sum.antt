-- The sum of a block's bytes: its SHA-256 digest (FIPS 180-4, 6.2), as the crate `sha2` states it.
pub use Rattle.sha2.specs.Sha256.{sha256}
