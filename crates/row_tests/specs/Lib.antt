pub mod NumberTests
pub mod Ready
