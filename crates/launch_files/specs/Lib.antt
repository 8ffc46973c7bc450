pub mod LaunchFiles
