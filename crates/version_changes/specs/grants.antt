-- What a list of grants makes of the newest version, and when a version may stand behind another.
pub mod Asked
pub mod Granting
pub mod Next
