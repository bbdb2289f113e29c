pub mod Jobs
pub mod Numbers
pub mod Items
pub mod Settings
pub mod NormalForm
pub mod Views
