pub mod StateOrder
pub mod PoolOrder
pub mod CutOrder
pub mod WorkedOrder
