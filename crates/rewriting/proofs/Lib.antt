-- Laws of a result moved to the front.
pub mod Results
