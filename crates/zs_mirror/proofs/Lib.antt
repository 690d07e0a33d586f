mod Outcomes
mod Devices
mod Copies
mod WrittenCopies
mod ReadCopies
mod CheckedReads
mod Repairs
mod Verdicts
