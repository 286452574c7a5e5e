pub mod StartTable
