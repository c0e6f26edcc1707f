pub mod PermissionsLaws
pub mod OrderLaws
pub mod RecordLaws
