pub mod SameCore
