-- A small district and its hub, over which the definitions are computed.
pub mod Hubs
pub mod Lake
