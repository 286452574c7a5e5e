pub mod Nurseries
