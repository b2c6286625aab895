pub mod Closing
pub mod Connection
pub mod Port
pub mod Serving
