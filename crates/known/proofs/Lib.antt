-- The known boards, proved.
pub mod Predecessors
pub mod Boards
