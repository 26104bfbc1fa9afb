pub mod StoredLaws
pub mod TopLaws
pub mod CountLaws
pub mod FirstLaws
