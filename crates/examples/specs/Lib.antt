pub mod TableWords
pub mod Table
pub mod OtherTable
