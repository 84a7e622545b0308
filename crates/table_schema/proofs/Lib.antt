pub mod BucketLaws
pub mod SchemaLaws
pub mod WidthLaws
