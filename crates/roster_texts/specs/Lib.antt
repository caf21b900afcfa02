pub mod Days
pub mod Digits
pub mod Moments
pub mod Numbers
pub mod Results
pub mod Signs
pub mod Texts
pub mod Trim
