mod Bytes
mod More
