pub mod Nets
mod Live
mod Marks
mod Below
mod Covering
pub mod Tracking
pub mod Closing
mod Taking
mod Noting
mod Looking
mod Turning
mod Flying
mod Parting
mod Opening
mod Calls
mod Holding
mod Rows
