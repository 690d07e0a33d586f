pub mod Key
pub mod KeyLaws
pub mod Blocks
pub mod Piece
pub mod Graph
pub mod GraphTree
pub mod GraphValid
pub mod GraphChange
